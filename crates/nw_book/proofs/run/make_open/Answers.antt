use Rattle.nw_book.specs.declared.moves.Answer.TheVariants as answers
use Rattle.nw_book.proofs.run.make_open.Goals as goal

pub returns-in-Ok-clause-made : goal.returns-in-Ok-clause-made
returns-in-Ok-clause-made g c =
    let taken = rw c.in-Ok.is at c.in_ok-answer.ensures.taken in
    let opened = rw c.in_ok-number.ensures.number at taken in
    let told = rw c.in-Ok.is at c.in_ok-answer.ensures.told in
    (answers.Opened, (c.in-Ok.ticket, opened, told, (cc (c.push_reserved.ensures.items, c.in_ok-reserve-2.ensures.items))), (cc (c.push_reserved-in-Ok.ensures.items, c.in_ok-reserve.ensures.items)))
