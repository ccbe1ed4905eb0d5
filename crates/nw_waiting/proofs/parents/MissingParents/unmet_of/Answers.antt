use Rattle.nw_waiting.proofs.Words.{◌≡◌, ◌∙◌, ◌++◌, ◌∷◌, [], ap, cond, subst, sym, filter, ListsExactly, wanted_cmp}
use Rattle.std.proofs.lemmas.List.{take_all}
use Rattle.nw_waiting.specs.Pairs.{Lacks}
use Rattle.nw_waiting.specs.Parted.{is_one, parted}
use Rattle.nw_waiting.proofs.UnmetOf.{next_unmet, unmet_among}
use Rattle.nw_waiting.proofs.parents.MissingParents.unmet_of.Goals as goal
use Rattle.nw_waiting.proofs.parents.MissingParents.unmet_of.Goals.{then-contains+in_ok-push, else-contains}

pub loop-wanted-preserved : goal.loop-wanted-preserved
loop-wanted-preserved g c =
    let keys = c.self.inside.unmet.keys in
    let x = c.wanted-item.result in
    let old = c.loop-wanted.unmet.items in
    let put : c.if-contains.unmet.items ≡ cond (is_one keys x) (old ++ x ∷ []) old = elim c.if-contains.branch [
      | then-contains+in_ok-push w ↦ ap (λ v. v.items) w.unmet-is ∙ w.in_ok-push.ensures.items ∙ ap (λ b. cond b (old ++ x ∷ []) old) (sym w.if-contains.true ∙ c.contains.ensures)
      | else-contains w ↦ ap (λ v. v.items) w.unmet-is ∙ ap (λ b. cond b (old ++ x ∷ []) old) (sym w.if-contains.false ∙ c.contains.ensures)
    ] in
    next_unmet (is_one keys) c.missing_of-wanted-items.result.now c.loop-wanted.wanted-index x old c.if-contains.unmet.items c.loop-wanted-test.true c.wanted-item.is c.loop-wanted.invariant put

pub returns : goal.returns
returns g c =
    let keys = c.self.inside.unmet.keys in
    let missing = c.missing_of-wanted-items.result.now in
    let whole = c.loop-wanted.invariant ∙ ap (filter (is_one keys)) (take_all c.loop-wanted.wanted-index missing c.loop-wanted-test.false) in
    subst (λ s. ListsExactly wanted_cmp (Lacks s.unmet c.args.holder) c.loop-wanted.unmet.items) c.self.view_is
    (subst (ListsExactly wanted_cmp (Lacks (parted c.self.inside.lacking keys).unmet c.args.holder)) (sym whole) (unmet_among c.self.inside.lacking keys c.args.holder missing c.missing_of-wanted-items.ensures))
