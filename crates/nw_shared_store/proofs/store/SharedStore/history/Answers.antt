use Rattle.nw_shared_store.proofs.Words.{◌≡◌, ◌∙◌, rules, refl, ap}
use Rattle.nw_book.specs.declared.error.NoStep.TheVariants as causes
use Rattle.nw_shared_store.specs.Session.{IsPassing, StoreView}
use Rattle.nw_shared_store.specs.declared.error.Refusal.TheVariants as refusals
use Rattle.nw_shared_store.proofs.Seated.{has_value, may_free, of_cause}
use Rattle.nw_shared_store.proofs.Enrolled.{history_of}
use Rattle.nw_shared_store.proofs.store.SharedStore.history.Goals as goal

pub returns-in_err-try_take-clause-refused : goal.returns-in_err-try_take-clause-refused
returns-in_err-try_take-clause-refused g c = of_cause IsPassing refusals.Busy c.from_residual.result tt (search rules)

pub returns-in_err-history-clause-refused : goal.returns-in_err-history-clause-refused
returns-in_err-history-clause-refused g c = of_cause IsPassing (refusals.NoStep causes.NoMemory) c.from_residual-in_err-history.result refl (search rules)

pub history_at-found-requires-clause-locked : goal.history_at-found-requires-clause-locked
history_at-found-requires-clause-locked g c = has_value g.S.Scheme.accepts _ _ c.in_ok-try_take.ensures.got

pub give_back-requires-clause-same : goal.give_back-requires-clause-same
give_back-requires-clause-same g c = may_free g.S.Scheme.accepts _ _ _ c.in_ok-try_take.ensures.got c.history_at-found.ensures.same

pub returns-clause-of_store : goal.returns-clause-of_store
returns-clause-of_store g c =
    let key : c.deref.result.now.shared.key ≡ c.self.inside.lock.value.shared.key = search rules in
    history_of g.S.Scheme.accepts _ c.args.self.now _ _ c.in_ok-history.history _ (key ∙ ap (λ (s : StoreView). s.first) c.self.view_is) c.new_seat-seat.ensures.knows c.in_ok-try_take.ensures.got c.in_ok-history.ensures.found
