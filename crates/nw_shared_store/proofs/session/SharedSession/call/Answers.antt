use Rattle.nw_shared_store.proofs.Words.{rules, IfErr, ◌∙◌, subst, IsExplained, call_of, committee_of, origin_of, MatchesCommittee, IsJournalOf}
use Rattle.nw_shared_store.specs.Session.{IsRefusedBy, IsSameSession, SessionView}
use Rattle.nw_shared_store.specs.declared.error.Refusal.TheVariants as refusals
use Rattle.nw_shared_store.proofs.Seated.{may_read, refused_by_of, view_at}
use Rattle.nw_shared_store.proofs.Answered.{may_call, may_end, same_called, refused_seen, same_reader, session_after, session_knowing, explained, own, own_committee, recorded, still_goes_on}
use Rattle.nw_shared_store.proofs.Recorded.{no_question}
use Rattle.nw_shared_store.proofs.session.SharedSession.call.Goals as goal

pub call_at-requires-clause-locked : goal.call_at-requires-clause-locked
call_at-requires-clause-locked g c =
    may_call g.S.Scheme.accepts _ _ _ _ _ _ c.self.invariant c.in_ok-take_in.ensures.got

pub end_call-requires-clause-called : goal.end_call-requires-clause-called
end_call-requires-clause-called g c =
    may_end g.S.Scheme.accepts _ _ _ _ _ _ c.self.invariant c.in_ok-take_in.ensures.got (committee_of c.args.command.now) _ _ _ _ c.call_at.ensures.view c.in-Ok.ensures.taken

pub end_reading-requires-clause-same : goal.end_reading-requires-clause-same
end_reading-requires-clause-same g c =
    may_read g.S.Scheme.accepts _ _ _ c.in_ok-take_in.ensures.got c.in-Err.ensures.unchanged

pub invariant_of-self-in-Err : goal.invariant_of-self-in-Err
invariant_of-self-in-Err g c =
    session_knowing g.S.Scheme.accepts _ _ _ _ _ _ c.self.invariant c.in_ok-take_in.ensures.got _ _ c.in-Err.ensures.unchanged c.end_reading.ensures.read _ (c.end_reading.ensures.at ∙ (c.call_at.ensures.at ∙ c.take_in.ensures.at))

pub returns-in-Err-clause-refused : goal.returns-in-Err-clause-refused
returns-in-Err-clause-refused g c =
    subst (λ (v : SessionView). IsRefusedBy g.S.Scheme.accepts v (view_at c.self.inside.lock.value.shared.table_id c.end_reading.new.seat.me) (committee_of c.args.command.now) (refusals.NoStep c.in-Err.why)) c.self.view_is
    (refused_seen g.S.Scheme.accepts _ _ _ _ _ _ c.self.invariant c.in_ok-take_in.ensures.got _ _ c.in-Err.ensures.unchanged c.end_reading.ensures.read (committee_of c.args.command.now) c.in-Err.why c.in-Err.ensures.refused)

pub returns-in-Err-clause-same : goal.returns-in-Err-clause-same
returns-in-Err-clause-same g c =
    subst (λ (v : SessionView). IsSameSession v (view_at c.self.inside.lock.value.shared.table_id c.end_reading.new.seat.me)) c.self.view_is
    (same_reader g.S.Scheme.accepts _ _ _ _ _ _ c.self.invariant c.in_ok-take_in.ensures.got _ _ c.in-Err.ensures.unchanged c.end_reading.ensures.read)

pub invariant_of-self-2 : goal.invariant_of-self-2
invariant_of-self-2 g c =
    session_after g.S.Scheme.accepts _ _ _ _ _ _ c.self.invariant c.in_ok-take_in.ensures.got (committee_of c.args.command.now) _ _ _ _ c.call_at.ensures.view c.in-Ok.ensures.taken _ c.end_call.ensures.released _ (c.end_call.ensures.at ∙ (c.call_at.ensures.at ∙ c.take_in.ensures.at))

pub returns-clause-answered : goal.returns-clause-answered
returns-clause-answered g c =
    subst (λ (v : SessionView). IsExplained g.S.Scheme.accepts (origin_of v.first) v.journal c.end_call.new.seat.me.0.journal (call_of c.args.command.now) c.in-Ok.done.event.reply c.in-Ok.done.front) c.self.view_is
    (explained g.S.Scheme.accepts _ _ _ _ _ _ c.self.invariant c.in_ok-take_in.ensures.got (committee_of c.args.command.now) _ _ _ _ c.call_at.ensures.view c.in-Ok.ensures.taken _ c.end_call.ensures.released)

pub returns-clause-own_calls : goal.returns-clause-own_calls
returns-clause-own_calls g c =
    subst (λ (v : SessionView). IsJournalOf c.in-Ok.done.front v.journal.id c.end_call.new.seat.me.0.journal) c.self.view_is
    (own g.S.Scheme.accepts _ _ _ _ _ _ c.self.invariant c.in_ok-take_in.ensures.got (committee_of c.args.command.now) _ _ _ _ c.call_at.ensures.view c.in-Ok.ensures.taken _ c.end_call.ensures.released)

pub returns-clause-same : goal.returns-clause-same
returns-clause-same g c =
    subst (λ (v : SessionView). IsSameSession v (view_at c.self.inside.lock.value.shared.table_id c.end_call.new.seat.me)) c.self.view_is
    (same_called g.S.Scheme.accepts _ _ _ _ _ _ c.self.invariant c.in_ok-take_in.ensures.got (committee_of c.args.command.now) _ _ _ _ c.call_at.ensures.view c.in-Ok.ensures.taken _ c.end_call.ensures.released)

pub returns-clause-own_committee : goal.returns-clause-own_committee
returns-clause-own_committee g c =
    subst (λ (v : SessionView). MatchesCommittee v.first.committee (committee_of c.args.command.now)) c.self.view_is
    (own_committee g.S.Scheme.accepts _ _ _ _ _ _ c.self.invariant c.in_ok-take_in.ensures.got (committee_of c.args.command.now) _ _ _ _ c.call_at.ensures.view c.in-Ok.ensures.taken)

pub returns-in_err-take_in-clause-refused : goal.returns-in_err-take_in-clause-refused
returns-in_err-take_in-clause-refused g c =
    subst (λ (v : SessionView). IfErr c.from_residual.result (IsRefusedBy g.S.Scheme.accepts v (view_at c.self.inside.lock.value.shared.table_id c.take_in.new.seat.me) (committee_of c.args.command.now))) c.self.view_is
    (refused_by_of g.S.Scheme.accepts _ c.self.inside.seat.me c.take_in.new.seat.me (committee_of c.args.command.now) c.from_residual.result (search rules))

pub returns-clause-goes_on : goal.returns-clause-goes_on
returns-clause-goes_on g c =
    still_goes_on g.S.Scheme.accepts _ _ _ _ _ _ c.self.invariant c.in_ok-take_in.ensures.got (committee_of c.args.command.now) _ _ _ _ c.call_at.ensures.view c.in-Ok.ensures.taken _ c.end_call.ensures.released

pub returns-clause-recorded : goal.returns-clause-recorded
returns-clause-recorded g c =
    recorded g.S.Scheme.accepts _ _ _ _ _ _ c.self.invariant c.in_ok-take_in.ensures.got (committee_of c.args.command.now) _ _ _ _ c.call_at.ensures.view c.in-Ok.ensures.taken (no_question c.args.command.now)
