use Rattle.nw_book.proofs.Opened.{ticket_there, ticket_walks}
use Rattle.nw_book.proofs.ticket.Ticket.walk.Goals as goal

pub walk-requires : goal.walk-requires
walk-requires g c = ticket_there g.S.Scheme.accepts _ _ c.self.invariant

pub returns-clause-list : goal.returns-clause-list
returns-clause-list g c = rw (← c.self.view_is) (ticket_walks (λ walk. walk.items) g.S.Scheme.accepts _ _ _ c.self.invariant c.walk.ensures)
