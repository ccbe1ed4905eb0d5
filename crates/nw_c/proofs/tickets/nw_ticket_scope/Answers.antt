use Rattle.std.proofs.Common.{ap, inr, rules, sym, ◌∙◌}
use Rattle.nw_c.proofs.tickets.nw_ticket_scope.Goals as goal

pub returns-in-Ticket-clause-code : goal.returns-in-Ticket-clause-code
returns-in-Ticket-clause-code c = inr (search rules, inr ((c.in-Ticket.ticket, ap (λ h. h.value) (sym c.is_open.ensures.same) ∙ sym c.lend.ensures.value ∙ c.in-Ticket.is), search rules))
