use Rattle.std.proofs.Common.{ap, inl, inr, refl, rules, subst, ◌∙◌}
use Rattle.nw_c.specs.Kinds.{HasHistory}
use Rattle.nw_c.proofs.events.nw_answer_is_prefix.Goals as goal

pub returns-clause-code : goal.returns-clause-code
returns-clause-code c = inr (search rules, inr ((subst HasHistory (c.lend.ensures.value ∙ ap (λ h. h.value) c.is_open.ensures.same) c.in-Some.ensures.held, subst HasHistory (c.lend-2.ensures.value ∙ ap (λ h. h.value) c.is_open-else-not-is_open.ensures.same) c.in-Some-front_of.ensures.held), inl refl))
