use Rattle.std.proofs.Common.{ap, inr, rules, sym, ◌∙◌}
use Rattle.nw_c.proofs.settlements.nw_settlement_give.Goals as goal

pub returns-in-Ok-clause-code : goal.returns-in-Ok-clause-code
returns-in-Ok-clause-code c = inr (
  search rules,
  inr (
    (
      (c.in-Settlement.given, ap (λ h. h.value) (sym c.is_open.ensures.same) ∙ sym c.lend.ensures.value ∙ c.in-Settlement.is),
      (c.in-Session.next, ap (λ h. h.value) (sym c.is_open-else-not-is_open.ensures.same) ∙ sym c.lend-2.ensures.value ∙ sym c.replace.ensures.value ∙ c.in-Session.is),
    ),
    search rules,
  ),
)

pub returns-in-Err-clause-code : goal.returns-in-Err-clause-code
returns-in-Err-clause-code c = inr (
  search rules,
  inr (
    (
      (c.in-Settlement.given, ap (λ h. h.value) (sym c.is_open.ensures.same) ∙ sym c.lend.ensures.value ∙ c.in-Settlement.is),
      (c.in-Session.next, ap (λ h. h.value) (sym c.is_open-else-not-is_open.ensures.same) ∙ sym c.lend-2.ensures.value ∙ sym c.replace.ensures.value ∙ c.in-Session.is),
    ),
    search rules,
  ),
)
