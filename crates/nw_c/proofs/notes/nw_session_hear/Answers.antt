use Rattle.std.proofs.Common.{ap, inr, rules, subst, sym, ◌∙◌}
use Rattle.nw_c.proofs.Kept.{heard, not_heard}
use Rattle.nw_c.specs.Events.{front_in}
use Rattle.nw_c.specs.Kinds.{HasHistory}
use Rattle.nw_c.proofs.notes.nw_session_hear.Goals as goal

pub returns-in-Ok-true-clause-heard : goal.returns-in-Ok-true-clause-heard
returns-in-Ok-true-clause-heard c = λ _.
    heard _ c.in-Session.held c.hear.new.self _ c.in-Some.note.now (ap (λ h. h.value) (sym c.is_open.ensures.same) ∙ sym c.lend-2.ensures.value ∙ c.in-Session.is) (sym (ap front_in (c.lend.ensures.value ∙ ap (λ h. h.value) c.is_open-else-not-is_open.ensures.same)) ∙ sym c.in-Some.ensures.front) c.hear.ensures.same (rw c.in-Ok-true.field-0-test at c.in-Ok-true.ensures.heard)

pub returns-in-Ok-false-clause-other : goal.returns-in-Ok-false-clause-other
returns-in-Ok-false-clause-other c = λ _.
    not_heard _ c.in-Session.held c.hear.new.self _ c.in-Some.note.now (ap (λ h. h.value) (sym c.is_open.ensures.same) ∙ sym c.lend-2.ensures.value ∙ c.in-Session.is) (sym (ap front_in (c.lend.ensures.value ∙ ap (λ h. h.value) c.is_open-else-not-is_open.ensures.same)) ∙ sym c.in-Some.ensures.front) c.hear.ensures.same (rw c.in-Ok-false.field-0-test at c.in-Ok-false.ensures.heard)

pub returns-in-Ok-true-clause-code : goal.returns-in-Ok-true-clause-code
returns-in-Ok-true-clause-code c = inr (search rules, inr (((c.in-Session.held, ap (λ h. h.value) (sym c.is_open.ensures.same) ∙ sym c.lend-2.ensures.value ∙ c.in-Session.is), subst HasHistory (c.lend.ensures.value ∙ ap (λ h. h.value) c.is_open-else-not-is_open.ensures.same) c.in-Some.ensures.held), search rules))

pub returns-in-Ok-false-clause-code : goal.returns-in-Ok-false-clause-code
returns-in-Ok-false-clause-code c = inr (search rules, inr (((c.in-Session.held, ap (λ h. h.value) (sym c.is_open.ensures.same) ∙ sym c.lend-2.ensures.value ∙ c.in-Session.is), subst HasHistory (c.lend.ensures.value ∙ ap (λ h. h.value) c.is_open-else-not-is_open.ensures.same) c.in-Some.ensures.held), search rules))

pub returns-in-Err-clause-code : goal.returns-in-Err-clause-code
returns-in-Err-clause-code c = inr (search rules, inr (((c.in-Session.held, ap (λ h. h.value) (sym c.is_open.ensures.same) ∙ sym c.lend-2.ensures.value ∙ c.in-Session.is), subst HasHistory (c.lend.ensures.value ∙ ap (λ h. h.value) c.is_open-else-not-is_open.ensures.same) c.in-Some.ensures.held), search rules))
