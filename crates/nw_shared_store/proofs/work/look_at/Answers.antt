use Rattle.nw_shared_store.proofs.Slots.{slot_of, value_is}
use Rattle.nw_shared_store.proofs.work.look_at.Goals as goal

pub slot_mut-locked-requires : goal.slot_mut-locked-requires
slot_mut-locked-requires g c = let t = c.requires.locked in (c.requires.lock.same, (t.0, slot_of c.args.seat.now.me t.0 t.1))

pub returns-clause-look : goal.returns-clause-look
returns-clause-look g c =
    let t = c.requires.locked in
    (c.slot_mut-locked.result.now, value_is c.args.seat.now.me c.slot_mut-locked.result.now t.0 c.slot_mut-locked.ensures.value t.1, (c.look.ensures.locked, c.look.ensures.look))
