use Rattle.nw_shared_store.proofs.Words.{None, Result, AnswerView, front_of, reply_of}
use Rattle.nw_model.specs.declared.call.Call.TheVariants as Call
use Rattle.nw_book.specs.Ticket.{TicketView}
use Rattle.nw_shared_store.specs.Locked.{IsTaken, IsUntaken}
use Rattle.nw_shared_store.proofs.Slots.{slot_of, on_ok, on_err}
use Rattle.nw_shared_store.proofs.work.open_at.Goals as goal

pub slot_mut-locked-requires : goal.slot_mut-locked-requires
slot_mut-locked-requires g c = let t = c.requires.locked in (c.requires.lock.same, (t.0, slot_of c.args.seat.now.me t.0 t.1))

pub returns-clause-taken : goal.returns-clause-taken
returns-clause-taken g c =
    let t = c.requires.locked in
    on_ok c.args.seat.now.me c.slot_mut-locked.result.now t.0 c.slot_mut-locked.ensures.value t.1 c.open.new.self (λ d n (answer : Result TicketView AnswerView). IsTaken g.S.Scheme.accepts d n c.args.id None (Call.Causal c.args.digest) (reply_of answer) (front_of answer)) c.open.result c.open.ensures.taken

pub returns-clause-refused : goal.returns-clause-refused
returns-clause-refused g c =
    let t = c.requires.locked in
    on_err c.args.seat.now.me c.slot_mut-locked.result.now t.0 c.slot_mut-locked.ensures.value t.1 (λ d why. IsUntaken g.S.Scheme.accepts d c.args.id None why) c.open.result c.open.ensures.refused
