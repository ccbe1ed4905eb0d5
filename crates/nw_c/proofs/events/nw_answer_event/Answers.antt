use Rattle.std.proofs.Common.{ap, inl, inr, refl, rules, subst, ◌∙◌}
use Rattle.nw_c.specs.Kinds.{HasHistory}
use Rattle.nw_c.proofs.events.nw_answer_event.Goals as goal

pub returns-in-Some-event-clause-code : goal.returns-in-Some-event-clause-code
returns-in-Some-event-clause-code c = inr (search rules, inr (subst HasHistory (c.lend.ensures.value ∙ ap (λ h. h.value) c.is_open.ensures.same) c.in-Some.ensures.held, inl refl))

pub returns-in-None-clause-code : goal.returns-in-None-clause-code
returns-in-None-clause-code c = inr (search rules, inr (subst HasHistory (c.lend.ensures.value ∙ ap (λ h. h.value) c.is_open.ensures.same) c.in-Some.ensures.held, search rules))
