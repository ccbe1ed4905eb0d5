use Rattle.nw_generation.proofs.Words.{◌≡◌, List, ap, subst, ◌∙◌, filter, nat_le, Digest, FinMap, from_entries, Block, digest_cmp}
use Rattle.std.proofs.Common.{IfOk}
use Rattle.nw_model.specs.Step.{from_round}
use Rattle.nw_model.proofs.Raised.{filtered_round}
use Rattle.nw_generation.specs.declared.generation.Generation.{Generation}
use Rattle.nw_generation.specs.Seen.{Joined, union}
use Rattle.nw_generation.proofs.Searches.{filtered_ascend}
use Rattle.nw_generation.proofs.generations.Generations.joined.Goals as goal

pub of-requires : goal.of-requires
of-requires c = rw (c.in_ok-entries.ensures, c.deref.ensures.value) (filtered_ascend _ c.in_ok-lent.lent.items c.in_ok-lent.ensures.ascend)

pub returns : goal.returns
returns c =
    let kept : FinMap digest_cmp Block → FinMap digest_cmp Block = from_round (λ (b : Block). b.round) c.args.round in
    let is : from_entries {R = digest_cmp} c.in_ok-entries.entries.items ≡ kept c.args.self.now.blocks =
    ap from_entries (c.in_ok-entries.ensures ∙ ap (λ (es : List (Digest × Block)). filter (λ e. nat_le c.args.round e.1.round) es) c.deref.ensures.value)
    ∙ filtered_round (λ (b : Block). b.round) c.args.round c.in_ok-lent.lent.items c.in_ok-lent.ensures.ascend
    ∙ ap kept (c.in_ok-lent.ensures.union ∙ ap union c.as_slice.ensures.value ∙ ap (λ (j : Joined). j.blocks) c.self.view_is) in
    subst (λ (m : FinMap digest_cmp Block). IfOk c.of.result (λ (generation : Generation). generation ≡ m)) is c.of.ensures
