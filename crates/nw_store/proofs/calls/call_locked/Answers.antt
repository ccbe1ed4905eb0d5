use Rattle.nw_store.proofs.Words.{committee_of, next_in_journal}
use Rattle.nw_book.specs.Turn.{MayStep}
use Rattle.nw_store.proofs.calls.call_locked.Goals as goal

pub take_call-requires-clause-admitted : goal.take_call-requires-clause-admitted
take_call-requires-clause-admitted g c κs within =
    let may : MayStep c.args.locked.now.history c.args.session.now.id (next_in_journal c.args.session.now) (committee_of c.args.command.now) = rw c.committee.ensures at c.in_ok-number.ensures.may in
    rw (c.may_call.ensures.same, c.in_ok-call.ensures.call) (c.in_ok-call.ensures.admitted c.args.locked.now.history.committee may.own)
