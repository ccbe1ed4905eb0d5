use Rattle.nw_shared_store.proofs.Slots.{slot_of}
use Rattle.nw_shared_store.proofs.work.compact_at.Goals as goal

pub slot_mut-locked-requires : goal.slot_mut-locked-requires
slot_mut-locked-requires g c = let t = c.requires.locked in (c.requires.lock.same, (t.0, slot_of c.args.seat.now.me t.0 t.1))
