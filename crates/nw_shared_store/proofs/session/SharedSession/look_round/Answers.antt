use Rattle.nw_shared_store.proofs.Words.{rules, IfErr, ◌∙◌, subst, refl, sym, state_of, AreLooks}
use Rattle.nw_shared_store.specs.Session.{IsKept, HasSeen, IsSameSession, IsUnseen, SessionView}
use Rattle.nw_shared_store.proofs.Seated.{kept_of, may_read, as_before, session_has_value, session_may_free, same_view, session_freed, unseen_of, unchanged_session, view_at}
use Rattle.nw_shared_store.proofs.Answered.{same_reader, seen, session_knowing}
use Rattle.nw_shared_store.proofs.session.SharedSession.look_round.Goals as goal

pub returns-in_err-take_in-clause-refused : goal.returns-in_err-take_in-clause-refused
returns-in_err-take_in-clause-refused g c = unseen_of c.self.inside.seat.me c.take_in.new.seat.me c.from_residual.result (search rules)

pub look_round_at-requires-clause-locked : goal.look_round_at-requires-clause-locked
look_round_at-requires-clause-locked g c = session_has_value _ _ _ _ _ _ c.self.invariant c.in_ok-take_in.ensures.got

pub end_reading-requires-clause-same : goal.end_reading-requires-clause-same
end_reading-requires-clause-same g c = may_read g.S.Scheme.accepts _ _ _ c.in_ok-take_in.ensures.got c.look_round_at.ensures.same

pub invariant_of-self-2 : goal.invariant_of-self-2
invariant_of-self-2 g c =
    session_knowing g.S.Scheme.accepts _ _ _ _ _ _ c.self.invariant c.in_ok-take_in.ensures.got _ _ c.look_round_at.ensures.same c.end_reading.ensures.read _ (c.end_reading.ensures.at ∙ (c.look_round_at.ensures.at ∙ c.take_in.ensures.at))

pub returns-clause-same : goal.returns-clause-same
returns-clause-same g c =
    subst (λ (v : SessionView). IsSameSession v (view_at c.self.inside.lock.value.shared.table_id c.end_reading.new.seat.me)) c.self.view_is
    (same_reader g.S.Scheme.accepts _ _ _ _ _ _ c.self.invariant c.in_ok-take_in.ensures.got _ _ c.look_round_at.ensures.same c.end_reading.ensures.read)

pub returns-clause-seen : goal.returns-clause-seen
returns-clause-seen g c =
    subst (λ (v : SessionView). HasSeen g.S.Scheme.accepts v (view_at c.self.inside.lock.value.shared.table_id c.end_reading.new.seat.me) (λ h. AreLooks (state_of h) c.args.round c.in-Ok.looks.items)) c.self.view_is
    (seen g.S.Scheme.accepts _ _ _ _ _ _ c.self.invariant c.in_ok-take_in.ensures.got _ _ c.look_round_at.ensures.same c.end_reading.ensures.read (λ h. AreLooks (state_of h) c.args.round c.in-Ok.looks.items) c.in-Ok.ensures.looks)

pub returns-in-Err-clause-refused : goal.returns-in-Err-clause-refused
returns-in-Err-clause-refused g c = subst IsUnseen (sym c.from.ensures) refl

pub give_back-requires-clause-same : goal.give_back-requires-clause-same
give_back-requires-clause-same g c = session_may_free _ _ _ _ _ _ c.self.invariant c.in_ok-take_in.ensures.got _ c.look_round_at.ensures.same

pub invariant_of-self-in-Err : goal.invariant_of-self-in-Err
invariant_of-self-in-Err g c =
    session_freed _ _ _ _ _ _ c.self.invariant c.in_ok-take_in.ensures.got _ _ _ (c.give_back.ensures.at ∙ (c.look_round_at.ensures.at ∙ c.take_in.ensures.at)) c.look_round_at.ensures.same c.give_back.ensures.freed

pub returns-in-Err-clause-same : goal.returns-in-Err-clause-same
returns-in-Err-clause-same g c =
    subst (λ (v : SessionView). IsSameSession v (view_at c.self.inside.lock.value.shared.table_id c.give_back.new.seat.me)) c.self.view_is
    (unchanged_session _ _ _ (as_before _ _ _ _ _ _ c.self.invariant c.in_ok-take_in.ensures.got _ _ c.look_round_at.ensures.same c.give_back.ensures.freed))

pub returns-in-Err-clause-unchanged : goal.returns-in-Err-clause-unchanged
returns-in-Err-clause-unchanged g c =
    subst (IsKept c.args.self.now (view_at c.self.inside.lock.value.shared.table_id c.give_back.new.seat.me)) (sym c.from.ensures)
    (same_view (as_before _ _ _ _ _ _ c.self.invariant c.in_ok-take_in.ensures.got _ _ c.look_round_at.ensures.same c.give_back.ensures.freed) ∙ c.self.view_is)

pub returns-in_err-take_in-clause-unchanged : goal.returns-in_err-take_in-clause-unchanged
returns-in_err-take_in-clause-unchanged g c =
    subst (λ (v : SessionView). IfErr c.from_residual.result (IsKept v (view_at c.self.inside.lock.value.shared.table_id c.take_in.new.seat.me))) c.self.view_is
    (kept_of _ c.self.inside.seat.me c.take_in.new.seat.me c.from_residual.result (search rules))
