use Rattle.std.proofs.Common.{ap, inr, rules, sym, ◌∙◌}
use Rattle.nw_c.proofs.Kept.{compared}
use Rattle.nw_c.proofs.tickets.nw_ticket_agree.Goals as goal

pub returns-clause-code : goal.returns-clause-code
returns-clause-code c = let first = ap (λ h. h.value) (sym c.is_open.ensures.same) ∙ sym c.lend.ensures.value ∙ c.in-Ticket.is in
    let second = ap (λ h. h.value) (sym c.is_open-else-not-is_open.ensures.same) ∙ sym c.lend-2.ensures.value ∙ c.in-Ticket-lend.is in
    let which = compared _ _ c.in-Ticket.ticket c.in-Ticket-lend.other c.compare.result first second c.compare.ensures.code in
    inr (search rules, inr (((c.in-Ticket.ticket, first), (c.in-Ticket-lend.other, second)), search rules))
