use Rattle.nw_shared_store.proofs.Words.{ℕ}
use Rattle.nw_shared_store.specs.Locked.{IsEnrolled, IsFullOf}
use Rattle.nw_shared_store.proofs.Slots.{slot_of, on_none, on_some}
use Rattle.nw_shared_store.proofs.work.enrol_at.Goals as goal

pub slot_mut-locked-requires : goal.slot_mut-locked-requires
slot_mut-locked-requires g c = let t = c.requires.locked in (c.requires.lock.same, (t.0, slot_of c.args.seat.now.me t.0 t.1))

pub returns-clause-made : goal.returns-clause-made
returns-clause-made g c =
    let t = c.requires.locked in
    on_some c.args.seat.now.me c.slot_mut-locked.result.now t.0 c.slot_mut-locked.ensures.value t.1 c.enrol.new.self (λ d n (made : ℕ × ℕ). IsEnrolled g.S.Scheme.accepts d n made.0 made.1) c.enrol.result c.enrol.ensures.made

pub returns-clause-full : goal.returns-clause-full
returns-clause-full g c =
    let t = c.requires.locked in
    on_none c.args.seat.now.me c.slot_mut-locked.result.now t.0 c.slot_mut-locked.ensures.value t.1 (IsFullOf g.S.Scheme.accepts) c.enrol.result c.enrol.ensures.full
