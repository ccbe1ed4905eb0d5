use Rattle.nw_shared_store.proofs.Words.{ℕ, Story}
use Rattle.nw_shared_store.specs.Locked.{IsEnded}
use Rattle.nw_shared_store.proofs.Slots.{slot_of, on_ok}
use Rattle.nw_shared_store.proofs.work.restart_at.Goals as goal

pub slot_mut-locked-requires : goal.slot_mut-locked-requires
slot_mut-locked-requires g c = let t = c.requires.locked in (c.requires.lock.same, (t.0, slot_of c.args.seat.now.me t.0 t.1))

pub returns-clause-restarted : goal.returns-clause-restarted
returns-clause-restarted g c =
    let t = c.requires.locked in
    on_ok c.args.seat.now.me c.slot_mut-locked.result.now t.0 c.slot_mut-locked.ensures.value t.1 c.restart.new.self (λ d n (ended : Story × ℕ). IsEnded g.S.Scheme.accepts d n ended.0 ended.1) c.restart.result c.restart.ensures.ended
