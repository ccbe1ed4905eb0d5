use Rattle.nw_shared_store.proofs.Words.{rules, refl}
use Rattle.nw_book.specs.declared.error.NoStep.TheVariants as causes
use Rattle.nw_shared_store.specs.Session.{IsPassing}
use Rattle.nw_shared_store.specs.declared.error.Refusal.TheVariants as refusals
use Rattle.nw_shared_store.proofs.Seated.{has_value, may_free, of_cause}
use Rattle.nw_shared_store.proofs.store.SharedStore.compact.Goals as goal

pub returns-in_err-try_take : goal.returns-in_err-try_take
returns-in_err-try_take g c = of_cause IsPassing refusals.Busy c.from_residual.result tt (search rules)

pub returns-in_err-done : goal.returns-in_err-done
returns-in_err-done g c = of_cause IsPassing (refusals.NoStep causes.NoMemory) c.from_residual-in_err-done.result refl (search rules)

pub compact_at-done-requires-clause-locked : goal.compact_at-done-requires-clause-locked
compact_at-done-requires-clause-locked g c = has_value g.S.Scheme.accepts _ _ c.in_ok-try_take.ensures.got

pub give_back-requires-clause-same : goal.give_back-requires-clause-same
give_back-requires-clause-same g c = may_free g.S.Scheme.accepts _ _ _ c.in_ok-try_take.ensures.got c.compact_at-done.ensures.same
