use Rattle.nw_store.proofs.Words.{subst, ArePrefixesOf, comparable}
use Rattle.nw_store.specs.Lock.{Guarded}
use Rattle.nw_store.proofs.locked.check_journals_locked.Goals as goal

pub returns-clause-comparable : goal.returns-clause-comparable
returns-clause-comparable g c =
    let also : ArePrefixesOf c.args.locked.now.history c.args.two.now.answers = subst (λ (h : Guarded). ArePrefixesOf h.history c.args.two.now.answers) c.check_journal_locked.ensures.same c.check_journal_locked-2.ensures.begun in
    comparable c.args.locked.now.history c.args.one.now.answers c.args.two.now.answers c.check_journal_locked.ensures.begun also
