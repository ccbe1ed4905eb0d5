use Rattle.nw_shared_store.proofs.Words.{ℕ, Story}
use Rattle.nw_shared_store.specs.Locked.{IsFound}
use Rattle.nw_shared_store.proofs.Slots.{slot_of, on_same}
use Rattle.nw_shared_store.proofs.work.history_at.Goals as goal

pub slot_mut-locked-requires : goal.slot_mut-locked-requires
slot_mut-locked-requires g c = let t = c.requires.locked in (c.requires.lock.same, (t.0, slot_of c.args.seat.now.me t.0 t.1))

pub returns-clause-found : goal.returns-clause-found
returns-clause-found g c =
    let t = c.requires.locked in
    on_same c.args.seat.now.me c.slot_mut-locked.result.now t.0 c.slot_mut-locked.ensures.value t.1 (λ d (found : Story × ℕ). IsFound g.S.Scheme.accepts d found.0 found.1) c.history.result c.history.ensures
