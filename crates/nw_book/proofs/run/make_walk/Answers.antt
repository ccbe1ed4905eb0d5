use Rattle.nw_book.proofs.Words.{◌≡◌, Some, length, refl, slice_get, slice_get_read}
use Rattle.nw_book.specs.declared.moves.Answer.TheVariants as answers
use Rattle.nw_book.proofs.run.make_walk.Goals as goal

pub returns-clause-made : goal.returns-clause-made
returns-clause-made g c = λ s.
    let there = c.in-Some.ensures.lookup in
    let held : slice_get c.args.tickets.now c.args.ticket ≡ Some c.in-Some.ticket.now =
    slice_get_read c.args.tickets.now (length c.args.tickets.now) c.args.ticket c.in-Some.ticket.now refl there.3.0 there.1 in
    (answers.Walked c.new.result, (c.in-Some.ticket.now, held, rw c.new.ensures c.in_ok-blocks.ensures.list, refl, refl), (cc (c.push_reserved.ensures.items, c.in_ok-reserve.ensures.items)))
