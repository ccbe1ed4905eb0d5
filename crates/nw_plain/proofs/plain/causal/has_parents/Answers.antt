use Rattle.nw_plain.proofs.Words.{rules, ◌≡◌, Bool, true, false, from_entries, Ref, digest_cmp}
use Rattle.std.proofs.Common.{tests}
use Rattle.std.specs.Bool.{MatchBool}
use Rattle.std.proofs.lemmas.Iterator.{cases_from_all, YieldsList-from_slice}
use Rattle.std.proofs.lemmas.Iterator.Search.{true_from_All}
use Rattle.std.proofs.lemmas.List.Elements.{All-from_all_within}
use Rattle.nw_model.specs.View.{HasParent}
use Rattle.nw_plain.proofs.plain.causal.has_parents.Goals as goal

where_true : {A : Type 0} (B : Type 0) (r : Bool) → MatchBool r A B → r ≡ true → A
where_true B true m e = m
where_true B false m e = absurd cc

pub returns : goal.returns
returns c =
    let P : Ref → Type 0 = HasParent (from_entries {R = digest_cmp} c.args.blocks.now.entries) c.args.block.now.round in
    let cases = cases_from_all _ _ _ P (λ r. P r → ⊥) c.all.ensures.ran (YieldsList-from_slice c.args.block.now.parents cc) (λ x q k. search (rules, tests)) (λ x q k. search (rules, tests)) in (
      λ t. All-from_all_within P c.args.block.now.parents (where_true _ c.all.result cases t),
      λ all. true_from_All P (λ r. P r → ⊥) c.all.result c.args.block.now.parents (λ x yes no. no yes) cases all,
    )
