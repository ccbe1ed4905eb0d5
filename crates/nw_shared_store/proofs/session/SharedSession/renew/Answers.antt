use Rattle.nw_shared_store.proofs.Words.{◌≡◌, rules, refl, ◌∙◌, subst}
use Rattle.nw_shared_store.specs.Session.{IsRenewed, SessionView}
use Rattle.nw_shared_store.specs.declared.error.Refusal.{Refusal}
use Rattle.nw_shared_store.specs.declared.error.Refusal.TheVariants as refusals
use Rattle.nw_shared_store.proofs.Seated.{has_value, of_cause, view_at}
use Rattle.nw_shared_store.proofs.Renewed.{may_look, may_renew, renewed, session_renewed, session_stayed, stayed}
use Rattle.nw_shared_store.proofs.session.SharedSession.renew.Goals as goal

pub returns-in_err-try_take-clause-refused : goal.returns-in_err-try_take-clause-refused
returns-in_err-try_take-clause-refused g c = of_cause (λ (why : Refusal). why ≡ refusals.Busy) refusals.Busy c.from_residual.result refl (search rules)

pub run_at-present-requires-clause-locked : goal.run_at-present-requires-clause-locked
run_at-present-requires-clause-locked g c = has_value g.S.Scheme.accepts _ _ c.in_ok-try_take.ensures.got

pub end_reading-requires-clause-same : goal.end_reading-requires-clause-same
end_reading-requires-clause-same g c =
    may_look g.S.Scheme.accepts _ _ _ _ _ _ c.self.invariant c.in_ok-try_take.ensures.got _ c.run_at-present.ensures.same _ c.run_at-present.ensures.run c.if-present-self.true

pub invariant_of-self-then-present-self : goal.invariant_of-self-then-present-self
invariant_of-self-then-present-self g c =
    session_stayed g.S.Scheme.accepts _ _ _ _ _ _ c.self.invariant c.in_ok-try_take.ensures.got _ c.run_at-present.ensures.same _ c.run_at-present.ensures.run c.if-present-self.true _ c.end_reading.ensures.read _ (c.end_reading.ensures.at ∙ (c.run_at-present.ensures.at ∙ c.try_take.ensures.at))

pub returns-then-present-self-clause-renewed : goal.returns-then-present-self-clause-renewed
returns-then-present-self-clause-renewed g c =
    subst (λ (v : SessionView). IsRenewed g.S.Scheme.accepts v (view_at c.self.inside.lock.value.shared.table_id c.end_reading.new.seat.me)) c.self.view_is
    (stayed g.S.Scheme.accepts _ _ _ _ _ _ c.self.invariant c.in_ok-try_take.ensures.got _ c.run_at-present.ensures.same _ c.run_at-present.ensures.run c.if-present-self.true _ c.end_reading.ensures.read)

pub join-requires-clause-joins : goal.join-requires-clause-joins
join-requires-clause-joins g c =
    may_renew g.S.Scheme.accepts _ _ _ _ _ _ c.self.invariant c.in_ok-try_take.ensures.got _ c.run_at-present.ensures.same _ c.run_at-present.ensures.run c.if-present-self.false

pub invariant_of-self-2 : goal.invariant_of-self-2
invariant_of-self-2 g c =
    session_renewed g.S.Scheme.accepts _ _ _ _ _ _ c.self.invariant c.in_ok-try_take.ensures.got _ c.run_at-present.ensures.same _ c.run_at-present.ensures.run c.if-present-self.false _ c.join.ensures.joined _ (c.join.ensures.at ∙ (c.run_at-present.ensures.at ∙ c.try_take.ensures.at))

pub returns-clause-renewed : goal.returns-clause-renewed
returns-clause-renewed g c =
    subst (λ (v : SessionView). IsRenewed g.S.Scheme.accepts v (view_at c.self.inside.lock.value.shared.table_id c.join.new.seat.me)) c.self.view_is
    (renewed g.S.Scheme.accepts _ _ _ _ _ _ c.self.invariant c.in_ok-try_take.ensures.got _ c.run_at-present.ensures.same _ c.run_at-present.ensures.run c.if-present-self.false _ c.join.ensures.joined)
