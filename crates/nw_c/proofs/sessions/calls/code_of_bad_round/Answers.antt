use Rattle.std.proofs.Common.{ap, inl, inr, refl, rules, sym, ◌∙◌}
use Rattle.nw_c.proofs.sessions.calls.code_of_bad_round.Goals as goal

pub returns-in-Session-clause-code : goal.returns-in-Session-clause-code
returns-in-Session-clause-code c = let fits = c.code_of_room-code.ensures.fits (search rules) in
    inr ((fits.0, fits.1), inr (((c.in-Session.field-0, ap (λ h. h.value) (sym c.code_of_room-code.ensures.same) ∙ sym c.lend.ensures.value ∙ c.in-Session.is), fits.2), inl refl))
