use Rattle.std.proofs.Common.{ap, inr, rules, sym, ◌∙◌}
use Rattle.nw_c.proofs.sessions.runs.nw_session_run.Goals as goal

pub returns-in-Session-clause-code : goal.returns-in-Session-clause-code
returns-in-Session-clause-code c = inr (search rules, inr ((c.in-Session.held, ap (λ h. h.value) (sym c.is_open.ensures.same) ∙ sym c.lend.ensures.value ∙ c.in-Session.is), search rules))
