use Rattle.std.proofs.Common.{ap, inl, inr, refl, rules, sym, ◌∙◌}
use Rattle.nw_c.proofs.replies.nw_answer_reply.Goals as goal

pub returns-in-Answer-clause-code : goal.returns-in-Answer-clause-code
returns-in-Answer-clause-code c = inr (search rules, inr (inl (c.in-Answer.done, ap (λ h. h.value) (sym c.is_open.ensures.same) ∙ sym c.lend.ensures.value ∙ c.in-Answer.is), inl refl))

pub returns-in-Ticket-clause-code : goal.returns-in-Ticket-clause-code
returns-in-Ticket-clause-code c = inr (search rules, inr (inr (c.in-Ticket.field-0, ap (λ h. h.value) (sym c.is_open.ensures.same) ∙ sym c.lend.ensures.value ∙ c.in-Ticket.is), inl refl))
