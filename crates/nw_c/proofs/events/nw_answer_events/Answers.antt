use Rattle.std.proofs.Common.{ap, inl, inr, refl, rules, subst, ◌∙◌}
use Rattle.nw_c.specs.Kinds.{HasHistory}
use Rattle.nw_c.proofs.events.nw_answer_events.Goals as goal

pub returns-in-Some-clause-code : goal.returns-in-Some-clause-code
returns-in-Some-clause-code c = inr (search rules, inr (subst HasHistory (c.lend.ensures.value ∙ ap (λ h. h.value) c.is_open.ensures.same) c.in-Some.ensures.held, inl refl))
