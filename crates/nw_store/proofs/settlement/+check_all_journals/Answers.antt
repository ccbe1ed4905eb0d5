use Rattle.nw_store.proofs.Words.{◌<◌, All-cons, Journal, ArePrefixesOf}
use Rattle.std.proofs.Common.{All}
use Rattle.nw_store.specs.Lock.{AreAnswers}
use Rattle.nw_store.proofs.settlement.+check_all_journals.Goals as goal

pub returns-in-Some-clause-begun : goal.returns-in-Some-clause-begun
returns-in-Some-clause-begun g t c =
    let P : Journal → Type 0 = λ j. ArePrefixesOf c.args.locked.now.history j.answers × AreAnswers j.id 1 j.answers in
    let first : P c.in-Some.first.now = (c.check_journal_locked.ensures.begun, c.check_journal_locked.ensures.numbered) in
    let rest : All P c.in-Some.rest.now = rw (← c.check_journal_locked.ensures.same) c.check_all_journals.ensures.begun in
    rw c.in-Some.ensures.cases.0 (All-cons P c.in-Some.first.now c.in-Some.rest.now first rest)

pub returns-in-Some-clause-below : goal.returns-in-Some-clause-below
returns-in-Some-clause-below g t c =
    let P : Journal → Type 0 = λ j. j.id < 256 in
    rw c.in-Some.ensures.cases.0 (All-cons P c.in-Some.first.now c.in-Some.rest.now c.check_journal_locked.ensures.below c.check_all_journals.ensures.below)
