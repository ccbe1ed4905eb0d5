use Rattle.std.proofs.Common.{◌≡◌, ◌++◌, ◌∷◌, ◌∙◌, ap, sym}
use Rattle.std.specs.Vec.Iter.{into_iter_items}
use Rattle.nw_causal.specs.Looked.{blocks}
use Rattle.nw_c.proofs.Walked.{block_fits}
use Rattle.nw_c.proofs.tickets.walked.Goals as goal

pub new-requires-clause-fits : goal.new-requires-clause-fits
new-requires-clause-fits c =
    let before = c.loop-ancestor.list.items in
    let rest = into_iter_items c.next.new.self in
    let given : into_iter_items c.into_iter-ancestor-iterator.result ≡ c.in_ok-lent.lent.items = c.into_iter-ancestor-iterator.ensures.into_iter_gives.0 in
    let all : before ++ blocks (c.in-Some.ancestor ∷ rest) ≡ blocks c.in_ok-lent.lent.items =
    ap (λ xs. before ++ blocks xs) (sym c.in-Some.ensures.steps.0) ∙ c.loop-ancestor.invariant ∙ ap blocks given in
    block_fits _ _ rest c.in-Some.ancestor before c.in_ok-try_clone.field-0 c.in_ok-lent.ensures.well_formed all c.in_ok-try_clone.ensures
