use Rattle.nw_causal.specs.Looked.{blocks}
use Rattle.nw_book.proofs.Opened.{ticket_each, ticket_there, ticket_walks}
use Rattle.nw_book.proofs.ticket.Ticket.walk_lent.Goals as goal

pub walk_lent-requires : goal.walk_lent-requires
walk_lent-requires g c = ticket_there g.S.Scheme.accepts _ _ c.self.invariant

pub returns-clause-list : goal.returns-clause-list
returns-clause-list g c = rw (← c.self.view_is) (ticket_walks (λ walked. blocks walked.items) g.S.Scheme.accepts _ _ _ c.self.invariant c.walk_lent.ensures.walk)

pub returns-clause-digests : goal.returns-clause-digests
returns-clause-digests g c = ticket_each (λ walked. walked.items) _ g.S.Scheme.accepts _ _ _ (λ a own. own.0) c.self.invariant c.walk_lent.ensures.digests

pub returns-clause-well_formed : goal.returns-clause-well_formed
returns-clause-well_formed g c = rw (← c.self.view_is) (ticket_each (λ walked. walked.items) _ g.S.Scheme.accepts _ _ _ (λ a own. own.1) c.self.invariant c.walk_lent.ensures.digests)
