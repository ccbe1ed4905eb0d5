use Rattle.nw_shared_store.proofs.Words.{call_of, committee_of}
use Rattle.nw_shared_store.specs.Locked.{IsTaken, IsUntaken}
use Rattle.nw_shared_store.proofs.Slots.{slot_of, on_ok, on_err}
use Rattle.nw_shared_store.proofs.work.call_at.Goals as goal

pub slot_mut-locked-requires : goal.slot_mut-locked-requires
slot_mut-locked-requires g c = let t = c.requires.locked in (c.requires.lock.same, (t.0, slot_of c.args.seat.now.me t.0 t.1))

pub returns-clause-taken : goal.returns-clause-taken
returns-clause-taken g c =
    let t = c.requires.locked in
    on_ok c.args.seat.now.me c.slot_mut-locked.result.now t.0 c.slot_mut-locked.ensures.value t.1 c.call.new.self (λ d n done. IsTaken g.S.Scheme.accepts d n c.args.id (committee_of c.args.command.now) (call_of c.args.command.now) done.event.reply done.front) c.call.result c.call.ensures.taken

pub returns-clause-refused : goal.returns-clause-refused
returns-clause-refused g c =
    let t = c.requires.locked in
    on_err c.args.seat.now.me c.slot_mut-locked.result.now t.0 c.slot_mut-locked.ensures.value t.1 (λ d why. IsUntaken g.S.Scheme.accepts d c.args.id (committee_of c.args.command.now) why) c.call.result c.call.ensures.refused
