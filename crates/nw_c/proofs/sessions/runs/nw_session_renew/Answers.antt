use Rattle.std.proofs.Common.{ap, inr, rules, sym, ◌∙◌}
use Rattle.nw_c.proofs.sessions.runs.nw_session_renew.Goals as goal

pub returns-in-Ok-clause-code : goal.returns-in-Ok-clause-code
returns-in-Ok-clause-code c = inr (search rules, inr ((c.in-Session.held, ap (λ h. h.value) (sym c.is_open.ensures.same) ∙ sym c.lend.ensures.value ∙ c.in-Session.is), search rules))

pub returns-in-Err-clause-code : goal.returns-in-Err-clause-code
returns-in-Err-clause-code c = inr (search rules, inr ((c.in-Session.held, ap (λ h. h.value) (sym c.is_open.ensures.same) ∙ sym c.lend.ensures.value ∙ c.in-Session.is), search rules))
