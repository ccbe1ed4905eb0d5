use Rattle.std.proofs.Common.{ap, inr, rules, sym, ◌∙◌}
use Rattle.nw_c.proofs.sessions.runs.nw_session_restart.Goals as goal

pub returns-in-Ok-clause-code : goal.returns-in-Ok-clause-code
returns-in-Ok-clause-code c = let fits = c.code_of_room-code.ensures.fits (search rules) in
    inr ((fits.0, fits.1), inr (((c.in-Session.held, ap (λ h. h.value) (sym c.code_of_room-code.ensures.same) ∙ sym c.lend.ensures.value ∙ c.in-Session.is), fits.2), search rules))

pub returns-in-Err-clause-code : goal.returns-in-Err-clause-code
returns-in-Err-clause-code c = let fits = c.code_of_room-code.ensures.fits (search rules) in
    inr ((fits.0, fits.1), inr (((c.in-Session.held, ap (λ h. h.value) (sym c.code_of_room-code.ensures.same) ∙ sym c.lend.ensures.value ∙ c.in-Session.is), fits.2), search rules))
