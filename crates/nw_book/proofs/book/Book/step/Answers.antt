use Rattle.nw_book.specs.Command.{committee_of}
use Rattle.nw_book.specs.Turn.{MayStep}
use Rattle.nw_book.proofs.book.Book.step.Goals as goal

pub take_step-requires-clause-admitted : goal.take_step-requires-clause-admitted
take_step-requires-clause-admitted g c =
    let may : MayStep c.args.self.now c.args.session c.args.number (committee_of c.args.command.now) = rw c.committee.ensures at c.in_ok-may_step.ensures.may in
    rw c.in_ok-call.ensures.call (c.in_ok-call.ensures.admitted c.args.self.now.committee may.own)
