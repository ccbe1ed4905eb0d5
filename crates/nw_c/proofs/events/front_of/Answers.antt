use Rattle.std.proofs.Common.{inl, inr}
use Rattle.nw_c.proofs.events.front_of.Goals as goal

pub returns-in-Answer-clause-held : goal.returns-in-Answer-clause-held
returns-in-Answer-clause-held c = inl (inl (c.in-Answer.done, c.in-Answer.is))

pub returns-in-Ticket-clause-held : goal.returns-in-Ticket-clause-held
returns-in-Ticket-clause-held c = inl (inr (c.in-Ticket.ticket, c.in-Ticket.is))

pub returns-in-History-clause-held : goal.returns-in-History-clause-held
returns-in-History-clause-held c = inr (c.in-History.front, c.in-History.is)
