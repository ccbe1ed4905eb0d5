use Rattle.nw_store.proofs.Words.{List, sym, subst, Story, Journal, ArePrefixesOf}
use Rattle.nw_store.specs.Lock.{Guarded, IsSession}
use Rattle.nw_store.proofs.Begun.{begun_answers}
use Rattle.nw_store.proofs.locked.check_journal_locked.Goals as goal

pub invariant_of-session : goal.invariant_of-session
invariant_of-session g c =
    let s = c.session.inside in
    subst (λ (l : List Story). IsSession s.token.share.parts s.token.share.amount (record { id = s.id; answers = s.journal.items; known = l })) (sym c.check_in_place.ensures.known) c.session.invariant

pub returns-clause-begun : goal.returns-clause-begun
returns-clause-begun g c =
    let begun = begun_answers c.locked.inside.book c.locked.inside.count.owner c.session.inside.token.known c.session.inside.journal.items c.locked.invariant.1.begun c.check_in_place.ensures.begins c.session.invariant.answers_known in
    subst (λ (h : Guarded). ArePrefixesOf h.history c.args.session.now.answers) c.locked.view_is (subst (λ (j : Journal). ArePrefixesOf c.locked.inside.book j.answers) c.session.view_is begun)
