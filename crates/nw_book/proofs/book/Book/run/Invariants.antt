use Rattle.nw_book.proofs.Words.{[], take}
use Rattle.nw_book.specs.Run.{Runs}
use Rattle.nw_book.proofs.book.Book.run.Given as goal

abbrev pub invariant-loop-next : goal.invariant-loop-next
invariant-loop-next g l =
    Runs g.S.Scheme.accepts (record { history = l.fn.self; tickets = []; answers = [] }) (take l.next-index l.moves) (record { history = l.self; tickets = l.tickets.items; answers = l.answers.items })
