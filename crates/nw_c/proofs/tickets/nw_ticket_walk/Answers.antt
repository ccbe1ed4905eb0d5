use Rattle.std.proofs.Common.{ap, inr, rules, sym, ◌∙◌}
use Rattle.nw_c.proofs.tickets.nw_ticket_walk.Goals as goal

pub returns-in-Ok-clause-code : goal.returns-in-Ok-clause-code
returns-in-Ok-clause-code c = inr (search rules, inr (search rules, inr ((c.in-Ticket.ticket, ap (λ h. h.value) (sym c.is_open.ensures.same) ∙ sym c.lend.ensures.value ∙ c.in-Ticket.is), search rules)))

pub returns-in-Err-clause-code : goal.returns-in-Err-clause-code
returns-in-Err-clause-code c = inr (search rules, inr (search rules, inr ((c.in-Ticket.ticket, ap (λ h. h.value) (sym c.is_open.ensures.same) ∙ sym c.lend.ensures.value ∙ c.in-Ticket.is), search rules)))
