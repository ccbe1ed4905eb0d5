use Rattle.nw_shared_store.proofs.Words.{rules, IfErr, ◌∙◌, subst, refl, sym}
use Rattle.nw_shared_store.specs.Session.{IsKept, IsRestarted, IsUnseen, SessionView}
use Rattle.nw_shared_store.proofs.Seated.{kept_of, as_before, session_has_value, session_may_free, same_view, session_freed, unseen_of, view_at}
use Rattle.nw_shared_store.proofs.Answered.{may_restart, restarted, session_restarted}
use Rattle.nw_shared_store.proofs.session.SharedSession.restart.Goals as goal

pub returns-in_err-take_in-clause-refused : goal.returns-in_err-take_in-clause-refused
returns-in_err-take_in-clause-refused g c = unseen_of c.self.inside.seat.me c.take_in.new.seat.me c.from_residual.result (search rules)

pub restart_at-requires-clause-locked : goal.restart_at-requires-clause-locked
restart_at-requires-clause-locked g c = session_has_value _ _ _ _ _ _ c.self.invariant c.in_ok-take_in.ensures.got

pub returns-in-Err-clause-refused : goal.returns-in-Err-clause-refused
returns-in-Err-clause-refused g c = subst IsUnseen (sym c.from.ensures) refl

pub give_back-requires-clause-same : goal.give_back-requires-clause-same
give_back-requires-clause-same g c = session_may_free _ _ _ _ _ _ c.self.invariant c.in_ok-take_in.ensures.got _ c.in-Err.ensures.unchanged

pub invariant_of-self-in-Err : goal.invariant_of-self-in-Err
invariant_of-self-in-Err g c =
    session_freed _ _ _ _ _ _ c.self.invariant c.in_ok-take_in.ensures.got _ _ _ (c.give_back.ensures.at ∙ (c.restart_at.ensures.at ∙ c.take_in.ensures.at)) c.in-Err.ensures.unchanged c.give_back.ensures.freed

pub returns-in-Err-clause-unchanged : goal.returns-in-Err-clause-unchanged
returns-in-Err-clause-unchanged g c =
    subst (IsKept c.args.self.now (view_at c.self.inside.lock.value.shared.table_id c.give_back.new.seat.me)) (sym c.from.ensures)
    (same_view (as_before _ _ _ _ _ _ c.self.invariant c.in_ok-take_in.ensures.got _ _ c.in-Err.ensures.unchanged c.give_back.ensures.freed) ∙ c.self.view_is)

pub returns-in_err-take_in-clause-unchanged : goal.returns-in_err-take_in-clause-unchanged
returns-in_err-take_in-clause-unchanged g c =
    subst (λ (v : SessionView). IfErr c.from_residual.result (IsKept v (view_at c.self.inside.lock.value.shared.table_id c.take_in.new.seat.me))) c.self.view_is
    (kept_of _ c.self.inside.seat.me c.take_in.new.seat.me c.from_residual.result (search rules))

pub join-requires-clause-joins : goal.join-requires-clause-joins
join-requires-clause-joins g c =
    may_restart g.S.Scheme.accepts _ _ _ _ _ _ c.self.invariant c.in_ok-take_in.ensures.got _ _ _ c.restart_at.ensures.view c.in-Ok.ensures.restarted

pub invariant_of-self-2 : goal.invariant_of-self-2
invariant_of-self-2 g c =
    session_restarted g.S.Scheme.accepts _ _ _ _ _ _ c.self.invariant c.in_ok-take_in.ensures.got _ _ _ c.restart_at.ensures.view c.in-Ok.ensures.restarted _ c.join.ensures.joined _ (c.join.ensures.at ∙ (c.restart_at.ensures.at ∙ c.take_in.ensures.at))

pub returns-clause-restarted : goal.returns-clause-restarted
returns-clause-restarted g c =
    subst (λ (v : SessionView). IsRestarted g.S.Scheme.accepts v (view_at c.self.inside.lock.value.shared.table_id c.join.new.seat.me) c.in-Ok.ended.0) c.self.view_is
    (restarted g.S.Scheme.accepts _ _ _ _ _ _ c.self.invariant c.in_ok-take_in.ensures.got _ _ _ c.restart_at.ensures.view c.in-Ok.ensures.restarted _ c.join.ensures.joined)
