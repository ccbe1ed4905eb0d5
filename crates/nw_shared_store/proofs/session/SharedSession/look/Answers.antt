use Rattle.nw_shared_store.proofs.Words.{rules, IfErr, ◌∙◌, subst}
use Rattle.nw_book.specs.Answered.{IsLookAfter}
use Rattle.nw_shared_store.specs.Session.{HasSeen, IsKept, IsSameSession, SessionView}
use Rattle.nw_shared_store.proofs.Seated.{kept_of, may_read, session_has_value, unavailable_of, view_at}
use Rattle.nw_shared_store.proofs.Answered.{same_reader, seen, session_knowing}
use Rattle.nw_shared_store.proofs.session.SharedSession.look.Goals as goal

pub look_at-look-requires-clause-locked : goal.look_at-look-requires-clause-locked
look_at-look-requires-clause-locked g c = session_has_value _ _ _ _ _ _ c.self.invariant c.in_ok-take_in.ensures.got

pub end_reading-requires-clause-same : goal.end_reading-requires-clause-same
end_reading-requires-clause-same g c = may_read g.S.Scheme.accepts _ _ _ c.in_ok-take_in.ensures.got c.look_at-look.ensures.same

pub invariant_of-self-2 : goal.invariant_of-self-2
invariant_of-self-2 g c =
    session_knowing g.S.Scheme.accepts _ _ _ _ _ _ c.self.invariant c.in_ok-take_in.ensures.got _ _ c.look_at-look.ensures.same c.end_reading.ensures.read _ (c.end_reading.ensures.at ∙ (c.look_at-look.ensures.at ∙ c.take_in.ensures.at))

pub returns-clause-same : goal.returns-clause-same
returns-clause-same g c =
    subst (λ (v : SessionView). IsSameSession v (view_at c.self.inside.lock.value.shared.table_id c.end_reading.new.seat.me)) c.self.view_is
    (same_reader g.S.Scheme.accepts _ _ _ _ _ _ c.self.invariant c.in_ok-take_in.ensures.got _ _ c.look_at-look.ensures.same c.end_reading.ensures.read)

pub returns-clause-seen : goal.returns-clause-seen
returns-clause-seen g c =
    subst (λ (v : SessionView). HasSeen g.S.Scheme.accepts v (view_at c.self.inside.lock.value.shared.table_id c.end_reading.new.seat.me) (λ h. IsLookAfter h (c.args.round, c.args.author) c.look_at-look.result)) c.self.view_is
    (seen g.S.Scheme.accepts _ _ _ _ _ _ c.self.invariant c.in_ok-take_in.ensures.got _ _ c.look_at-look.ensures.same c.end_reading.ensures.read (λ h. IsLookAfter h (c.args.round, c.args.author) c.look_at-look.result) c.look_at-look.ensures.look)

pub returns-in_err-take_in-clause-refused : goal.returns-in_err-take_in-clause-refused
returns-in_err-take_in-clause-refused g c = unavailable_of c.self.inside.seat.me c.take_in.new.seat.me c.from_residual.result (search rules)

pub returns-in_err-take_in-clause-unchanged : goal.returns-in_err-take_in-clause-unchanged
returns-in_err-take_in-clause-unchanged g c =
    subst (λ (v : SessionView). IfErr c.from_residual.result (IsKept v (view_at c.self.inside.lock.value.shared.table_id c.take_in.new.seat.me))) c.self.view_is
    (kept_of _ c.self.inside.seat.me c.take_in.new.seat.me c.from_residual.result (search rules))
