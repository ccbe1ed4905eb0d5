use Rattle.nw_store.proofs.Words.{◌≡◌, List, length, ap, arith, length_permutation, Journal}
use Rattle.nw_store.proofs.Lent.{lent}
use Rattle.nw_store.proofs.Interleaved.{settled_still}
use Rattle.nw_store.proofs.Ordered.{all_still}
use Rattle.nw_store.proofs.settlement.settle_locked.Goals as goal

pub invariant_of-result : goal.invariant_of-result
invariant_of-result g c =
    let kept = length_permutation c.as_mut_slice.result.now c.settle_in_place.new.sessions c.settle_in_place.ensures.permutation in
    let len : length c.settle_in_place.new.sessions ≡ c.args.sessions.len = (let l = ap (λ (js : List Journal). length js) c.as_mut_slice.ensures.value in let ok = c.args.sessions.ok in omega (arith, kept, l, ok)) in
    let items = lent c.args.sessions.len c.settle_in_place.new.sessions c.args.sessions.items len in (
      all_still _ c.settle_in_place.new.locked _ _ c.settle_in_place.ensures.same items c.in-Ok.ensures.all,
      settled_still _ c.settle_in_place.new.locked _ _ c.settle_in_place.ensures.same items c.in-Ok.ensures.settled,
    )

pub returns-in-Ok-clause-settled : goal.returns-in-Ok-clause-settled
returns-in-Ok-clause-settled g c = (invariant_of-result g c).1
