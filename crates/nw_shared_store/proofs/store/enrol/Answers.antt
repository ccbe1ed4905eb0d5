use Rattle.nw_shared_store.proofs.Words.{◌∙◌}
use Rattle.nw_shared_store.proofs.Seated.{has_value, may_free}
use Rattle.nw_shared_store.proofs.Enrolled.{counted, idle, may_enrol, not_made, of_store, session_made}
use Rattle.nw_shared_store.proofs.store.enrol.Goals as goal

pub enrol_at-requires-clause-locked : goal.enrol_at-requires-clause-locked
enrol_at-requires-clause-locked g c = has_value g.S.Scheme.accepts _ _ c.in_ok-try_take.ensures.got

pub cut_session-owner-requires-clause-idle : goal.cut_session-owner-requires-clause-idle
cut_session-owner-requires-clause-idle g c =
    idle g.S.Scheme.accepts _ _ _ _ _ _ _ _ c.requires.owner c.in_ok-try_take.ensures.got c.enrol_at.ensures.view c.in-Some.ensures.made

pub end_enrolment-requires-clause-made : goal.end_enrolment-requires-clause-made
end_enrolment-requires-clause-made g c =
    may_enrol g.S.Scheme.accepts _ _ _ _ _ _ _ _ c.requires.owner c.in_ok-try_take.ensures.got c.enrol_at.ensures.view c.in-Some.ensures.made _ c.cut_session-owner.ensures.session

pub end_counting-requires-clause-same : goal.end_counting-requires-clause-same
end_counting-requires-clause-same g c = may_free g.S.Scheme.accepts _ _ _ c.in_ok-try_take.ensures.got c.in-None.ensures.unchanged

pub returns-in-None-clause-owner : goal.returns-in-None-clause-owner
returns-in-None-clause-owner g c =
    (not_made g.S.Scheme.accepts _ _ _ _ _ _ c.requires.owner c.in_ok-try_take.ensures.got c.in-None.ensures.unchanged c.in-None.ensures.full _ c.end_counting.ensures.counted _ (c.end_counting.ensures.at ∙ (c.enrol_at.ensures.at ∙ c.try_take.ensures.at))).0

pub returns-in-None-clause-refused : goal.returns-in-None-clause-refused
returns-in-None-clause-refused g c =
    (not_made g.S.Scheme.accepts _ _ _ _ _ _ c.requires.owner c.in_ok-try_take.ensures.got c.in-None.ensures.unchanged c.in-None.ensures.full _ c.end_counting.ensures.counted _ (c.end_counting.ensures.at ∙ (c.enrol_at.ensures.at ∙ c.try_take.ensures.at))).1

pub returns-in-Some-clause-owner : goal.returns-in-Some-clause-owner
returns-in-Some-clause-owner g c =
    rw c.replace.ensures.after (counted g.S.Scheme.accepts _ _ _ _ _ _ _ _ c.requires.owner c.in_ok-try_take.ensures.got c.enrol_at.ensures.view c.in-Some.ensures.made _ _ (c.cut_session-owner.ensures.owner_at ∙ (c.enrol_at.ensures.at ∙ c.try_take.ensures.at)) c.cut_session-owner.ensures.owner).0

pub returns-in-Some-clause-counted : goal.returns-in-Some-clause-counted
returns-in-Some-clause-counted g c =
    rw c.replace.ensures.after (counted g.S.Scheme.accepts _ _ _ _ _ _ _ _ c.requires.owner c.in_ok-try_take.ensures.got c.enrol_at.ensures.view c.in-Some.ensures.made _ _ (c.cut_session-owner.ensures.owner_at ∙ (c.enrol_at.ensures.at ∙ c.try_take.ensures.at)) c.cut_session-owner.ensures.owner).1

pub returns-in-Some-clause-session : goal.returns-in-Some-clause-session
returns-in-Some-clause-session g c =
    rw c.replace.ensures.value (session_made g.S.Scheme.accepts _ _ _ _ _ _ _ _ c.requires.owner c.in_ok-try_take.ensures.got c.enrol_at.ensures.view c.in-Some.ensures.made _ c.cut_session-owner.ensures.session _ c.end_enrolment.ensures.enrolled _
    (c.end_enrolment.ensures.at ∙ (c.cut_session-owner.ensures.at ∙ (c.enrol_at.ensures.at ∙ c.try_take.ensures.at))))

pub returns-in-Some-clause-new : goal.returns-in-Some-clause-new
returns-in-Some-clause-new g c =
    rw c.replace.ensures.value (of_store g.S.Scheme.accepts _ _ _ _ _ _ _ _ c.requires.owner c.in_ok-try_take.ensures.got c.enrol_at.ensures.view c.in-Some.ensures.made _ c.cut_session-owner.ensures.session _ c.end_enrolment.ensures.enrolled)
