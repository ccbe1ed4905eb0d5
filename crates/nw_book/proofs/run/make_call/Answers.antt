use Rattle.nw_book.proofs.Words.{refl}
use Rattle.nw_book.specs.Command.{committee_of}
use Rattle.nw_book.specs.Turn.{MayStep}
use Rattle.nw_book.specs.declared.moves.Answer.TheVariants as answers
use Rattle.nw_book.proofs.run.make_call.Goals as goal

pub take_step-requires-clause-admitted : goal.take_step-requires-clause-admitted
take_step-requires-clause-admitted g c =
    let may : MayStep c.args.book.now c.args.session c.in_ok-number.number (committee_of c.args.command.now) = rw c.committee.ensures at c.in_ok-may_step.ensures.may in
    rw c.in_ok-call.ensures.call (c.in_ok-call.ensures.admitted c.args.book.now.committee may.own)

pub returns-clause-made : goal.returns-clause-made
returns-clause-made g c =
    let may : MayStep c.args.book.now c.args.session c.in_ok-number.number (committee_of c.args.command.now) = rw c.committee.ensures at c.in_ok-may_step.ensures.may in
    let taken = rw (c.in_ok-number.ensures.number, c.in_ok-call.ensures.call) at c.in_ok-done.ensures.taken in
    λ given. (answers.Done c.in_ok-done.done, (taken, may.own, refl), (cc (c.push_reserved.ensures.items, c.in_ok-reserve.ensures.items)))
