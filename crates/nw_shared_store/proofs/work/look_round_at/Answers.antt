use Rattle.nw_shared_store.proofs.Words.{state_of, AreLooks}
use Rattle.nw_shared_store.specs.Locked.{IsLocked}
use Rattle.nw_shared_store.proofs.Slots.{slot_of, on_also}
use Rattle.nw_shared_store.proofs.work.look_round_at.Goals as goal

pub slot_mut-locked-requires : goal.slot_mut-locked-requires
slot_mut-locked-requires g c = let t = c.requires.locked in (c.requires.lock.same, (t.0, slot_of c.args.seat.now.me t.0 t.1))

pub returns-clause-looks : goal.returns-clause-looks
returns-clause-looks g c =
    let t = c.requires.locked in
    on_also c.args.seat.now.me c.slot_mut-locked.result.now t.0 c.slot_mut-locked.ensures.value t.1 (IsLocked g.S.Scheme.accepts) (λ d looks. AreLooks (state_of d.history) c.args.round looks.items) c.look_round.result c.look_round.ensures.locked c.look_round.ensures.looks
