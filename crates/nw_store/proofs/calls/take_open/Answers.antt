use Rattle.nw_store.proofs.Words.{◌∙◌, sym, ap, subst, front_of, reply_of, Journal, next_in_journal, IsAnswered}
use Rattle.nw_model.specs.declared.call.Call.TheVariants as calls
use Rattle.nw_store.specs.Lock.{Guarded}
use Rattle.nw_store.proofs.Kept.{starts_so}
use Rattle.nw_store.proofs.Taken.{lock_after, session_after, answered_after}
use Rattle.nw_store.proofs.calls.take_open.Goals as goal

pub invariant_of-locked-2 : goal.invariant_of-locked-2
invariant_of-locked-2 g c = (
  c.locked.invariant.0,
  lock_after c.in_ok-answer.ensures.taken c.in_ok-answer.ensures.kept c.front.ensures c.locked.invariant.1 c.add_call.ensures.counted c.add_call.ensures.logged,
  starts_so _ _ _ _ c.in_ok-answer.ensures.taken.history c.locked.invariant.2,
)

pub invariant_of-session-2 : goal.invariant_of-session-2
invariant_of-session-2 g c =
    session_after c.in_ok-answer.ensures.taken c.in_ok-answer.ensures.kept c.front.ensures c.locked.invariant.1 c.add_call.ensures.counted c.add_call.ensures.logged c.session.invariant c.add_call.ensures.begins c.add_call.ensures.known
    c.push_reserved.ensures.items c.reserve.ensures.items (c.requires.number ∙ sym (ap next_in_journal c.session.view_is)) c.add_call.ensures.parts c.add_call.ensures.amount

pub returns-clause-answered : goal.returns-clause-answered
returns-clause-answered g c =
    let after : Journal = record { id = c.session.inside.id; answers = c.push_reserved.new.self.items; known = c.add_call.new.token.known } in
    let whole = answered_after c.in_ok-answer.ensures.taken c.in_ok-answer.ensures.kept c.front.ensures c.locked.invariant.1 c.add_call.ensures.counted c.add_call.ensures.logged c.session.invariant c.add_call.ensures.begins c.add_call.ensures.known
    c.push_reserved.ensures.items c.reserve.ensures.items (c.requires.number ∙ sym (ap next_in_journal c.session.view_is)) in
    subst (λ (h : Guarded). IsAnswered g.S.Scheme.accepts h.history c.args.session.now after (calls.Causal c.args.digest) (reply_of c.in_ok-answer.answer) (front_of c.in_ok-answer.answer)) c.locked.view_is
    (subst (λ (j : Journal). IsAnswered g.S.Scheme.accepts c.locked.inside.book j after (calls.Causal c.args.digest) (reply_of c.in_ok-answer.answer) (front_of c.in_ok-answer.answer)) c.session.view_is whole)
