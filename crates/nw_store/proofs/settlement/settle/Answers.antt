use Rattle.nw_store.proofs.Words.{List, ◌∙◌, sym, subst, All, Journal, ArePrefixesOf}
use Rattle.nw_store.specs.Lock.{Guarded, AreAnswers}
use Rattle.nw_store.proofs.settlement.settle.Goals as goal

pub returns-in-Err-clause-begun : goal.returns-in-Err-clause-begun
returns-in-Err-clause-begun g c =
    let items = c.as_mut_slice.ensures.value ∙ c.in-Err.ensures.back.1 in
    let begun = subst (λ (js : List Journal). All (λ j. ArePrefixesOf c.in-Err.locked.history j.answers × AreAnswers j.id 1 j.answers) js) items c.check_all_journals.ensures.begun in
    subst (λ (h : Guarded). All (λ j. ArePrefixesOf h.history j.answers × AreAnswers j.id 1 j.answers) c.args.sessions.items) (sym c.check_all_journals.ensures.same) begun
