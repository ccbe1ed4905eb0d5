use Rattle.nw_shared_store.proofs.Words.{◌≡◌, rules, Contains, IfErr, Journal, ◌∙◌, ap, subst, refl, sym, origin_of}
use Rattle.nw_book.specs.Journal.{KnowsAll}
use Rattle.nw_shared_store.specs.Rule.{knowing}
use Rattle.nw_shared_store.specs.Session.{IsKept, IsPresent, IsSameSession, IsUnseen, SessionView}
use Rattle.nw_shared_store.proofs.Seated.{kept_of, may_read, as_before, session_has_value, session_may_free, same_view, session_freed, unseen_of, unchanged_session, view_at}
use Rattle.nw_shared_store.proofs.Answered.{knows, present_is, same_reader, session_knowing}
use Rattle.nw_shared_store.proofs.Parts.{knew_more, knew_view}
use Rattle.nw_shared_store.proofs.session.SharedSession.history.Goals as goal

pub returns-in_err-take_in-clause-refused : goal.returns-in_err-take_in-clause-refused
returns-in_err-take_in-clause-refused g c = unseen_of c.self.inside.seat.me c.take_in.new.seat.me c.from_residual.result (search rules)

pub history_at-requires-clause-locked : goal.history_at-requires-clause-locked
history_at-requires-clause-locked g c = session_has_value _ _ _ _ _ _ c.self.invariant c.in_ok-take_in.ensures.got

pub returns-in-Err-clause-refused : goal.returns-in-Err-clause-refused
returns-in-Err-clause-refused g c = subst IsUnseen (sym c.from.ensures) refl

pub give_back-requires-clause-same : goal.give_back-requires-clause-same
give_back-requires-clause-same g c = session_may_free _ _ _ _ _ _ c.self.invariant c.in_ok-take_in.ensures.got _ c.history_at.ensures.same

pub end_reading-requires-clause-same : goal.end_reading-requires-clause-same
end_reading-requires-clause-same g c = may_read g.S.Scheme.accepts _ _ _ c.in_ok-take_in.ensures.got c.history_at.ensures.same

pub invariant_of-self-in-Err : goal.invariant_of-self-in-Err
invariant_of-self-in-Err g c =
    session_freed _ _ _ _ _ _ c.self.invariant c.in_ok-take_in.ensures.got _ _ _ (c.give_back.ensures.at ∙ (c.history_at.ensures.at ∙ c.take_in.ensures.at)) c.history_at.ensures.same c.give_back.ensures.freed

pub returns-in-Err-clause-same : goal.returns-in-Err-clause-same
returns-in-Err-clause-same g c =
    subst (λ (v : SessionView). IsSameSession v (view_at c.self.inside.lock.value.shared.table_id c.give_back.new.seat.me)) c.self.view_is
    (unchanged_session _ _ _ (as_before _ _ _ _ _ _ c.self.invariant c.in_ok-take_in.ensures.got _ _ c.history_at.ensures.same c.give_back.ensures.freed))

pub returns-in-Err-clause-unchanged : goal.returns-in-Err-clause-unchanged
returns-in-Err-clause-unchanged g c =
    subst (IsKept c.args.self.now (view_at c.self.inside.lock.value.shared.table_id c.give_back.new.seat.me)) (sym c.from.ensures)
    (same_view (as_before _ _ _ _ _ _ c.self.invariant c.in_ok-take_in.ensures.got _ _ c.history_at.ensures.same c.give_back.ensures.freed) ∙ c.self.view_is)

pub returns-in_err-take_in-clause-unchanged : goal.returns-in_err-take_in-clause-unchanged
returns-in_err-take_in-clause-unchanged g c =
    subst (λ (v : SessionView). IfErr c.from_residual.result (IsKept v (view_at c.self.inside.lock.value.shared.table_id c.take_in.new.seat.me))) c.self.view_is
    (kept_of _ c.self.inside.seat.me c.take_in.new.seat.me c.from_residual.result (search rules))

pub invariant_of-self-2 : goal.invariant_of-self-2
invariant_of-self-2 g c =
    session_knowing g.S.Scheme.accepts _ _ _ _ _ _ c.self.invariant c.in_ok-take_in.ensures.got _ _ c.history_at.ensures.same c.end_reading.ensures.read _ (c.end_reading.ensures.at ∙ (c.history_at.ensures.at ∙ c.take_in.ensures.at))

pub returns-clause-present : goal.returns-clause-present
returns-clause-present g c =
    subst (λ (v : SessionView). IsPresent g.S.Scheme.accepts (origin_of v.first) v.journal c.in-Ok.now.0 c.in-Ok.now.1) c.self.view_is
    (present_is g.S.Scheme.accepts _ _ _ _ _ _ c.self.invariant c.in_ok-take_in.ensures.got _ _ c.history_at.ensures.same c.end_reading.ensures.read _ _ c.in-Ok.ensures.found)

pub returns-clause-knows : goal.returns-clause-knows
returns-clause-knows g c =
    knows g.S.Scheme.accepts _ _ _ _ _ _ c.self.invariant c.in_ok-take_in.ensures.got _ _ c.history_at.ensures.same c.end_reading.ensures.read _ _ c.in-Ok.ensures.found ∙ ap (λ (v : SessionView). knowing v.journal c.in-Ok.now.0) c.self.view_is

pub returns-clause-same : goal.returns-clause-same
returns-clause-same g c =
    subst (λ (v : SessionView). IsSameSession v (view_at c.self.inside.lock.value.shared.table_id c.end_reading.new.seat.me)) c.self.view_is
    (same_reader g.S.Scheme.accepts _ _ _ _ _ _ c.self.invariant c.in_ok-take_in.ensures.got _ _ c.history_at.ensures.same c.end_reading.ensures.read)

pub returns-in_err-take_in-clause-knew : goal.returns-in_err-take_in-clause-knew
returns-in_err-take_in-clause-knew g c =
    let same : c.take_in.new.seat.me.0.journal ≡ c.self.inside.seat.me.0.journal = search rules in
    subst (λ (v : SessionView). KnowsAll c.take_in.new.seat.me.0.journal.known v.journal.known) c.self.view_is (λ s known. subst (λ (j : Journal). Contains j.known s) (sym same) known)

pub returns-in-Err-clause-knew : goal.returns-in-Err-clause-knew
returns-in-Err-clause-knew g c =
    knew_view _ _ (same_view (as_before _ _ _ _ _ _ c.self.invariant c.in_ok-take_in.ensures.got _ _ c.history_at.ensures.same c.give_back.ensures.freed) ∙ c.self.view_is)

pub returns-clause-knew : goal.returns-clause-knew
returns-clause-knew g c =
    knew_more _ _ c.in-Ok.now.0
    (knows g.S.Scheme.accepts _ _ _ _ _ _ c.self.invariant c.in_ok-take_in.ensures.got _ _ c.history_at.ensures.same c.end_reading.ensures.read _ _ c.in-Ok.ensures.found ∙ ap (λ (v : SessionView). knowing v.journal c.in-Ok.now.0) c.self.view_is)
