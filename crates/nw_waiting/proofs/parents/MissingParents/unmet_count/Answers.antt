use Rattle.nw_waiting.proofs.Words.{◌≡◌, ◌∙◌, ◌+◌, ap, cond, subst, sym, filter, length, arith}
use Rattle.std.specs.Prelude.{◌≤◌}
use Rattle.std.proofs.lemmas.List.{take_all}
use Rattle.nw_model.specs.Missing.{HasCount, wanted_cmp}
use Rattle.nw_waiting.specs.Pairs.{Lacks}
use Rattle.nw_waiting.specs.Parted.{is_one}
use Rattle.nw_waiting.proofs.UnmetOf.{next_count, unmet_among}
use Rattle.nw_waiting.proofs.parents.MissingParents.unmet_count.Goals as goal
use Rattle.nw_waiting.proofs.parents.MissingParents.unmet_count.Goals.{then-contains, else-contains}

pub loop-wanted-preserved : goal.loop-wanted-preserved
loop-wanted-preserved g c =
    let keys = c.self.inside.unmet.keys in
    let x = c.wanted-item.result in
    let old = c.loop-wanted.count in
    let put : c.if-contains.count ≡ cond (is_one keys x) (old + 1) old = elim c.if-contains.branch [
      | then-contains w ↦ w.count-is ∙ ap (λ b. cond b (old + 1) old) (sym w.if-contains.true ∙ c.contains.ensures)
      | else-contains w ↦ w.count-is ∙ ap (λ b. cond b (old + 1) old) (sym w.if-contains.false ∙ c.contains.ensures)
    ] in
    let below : c.if-contains.count ≤ c.loop-wanted.wanted-index + 1 = elim c.if-contains.branch [
      | then-contains w ↦ omega (arith, w.count-is, c.loop-wanted.invariant.1)
      | else-contains w ↦ omega (arith, w.count-is, c.loop-wanted.invariant.1)
    ] in
    (next_count (is_one keys) c.missing_of-wanted-items.result.now c.loop-wanted.wanted-index x old c.if-contains.count c.loop-wanted-test.true c.wanted-item.is c.loop-wanted.invariant.0 put, below)

pub returns : goal.returns
returns g c =
    let keys = c.self.inside.unmet.keys in
    let missing = c.missing_of-wanted-items.result.now in
    let whole = c.loop-wanted.invariant.0 ∙ ap (λ read. length (filter (is_one keys) read)) (take_all c.loop-wanted.wanted-index missing c.loop-wanted-test.false) in
    subst (λ s. HasCount wanted_cmp (Lacks s.unmet c.args.holder) c.loop-wanted.count) c.self.view_is
    (filter (is_one keys) missing, unmet_among c.self.inside.lacking keys c.args.holder missing c.missing_of-wanted-items.ensures, sym whole)
