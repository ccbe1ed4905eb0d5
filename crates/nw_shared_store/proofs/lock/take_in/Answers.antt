use Rattle.nw_shared_store.proofs.Words.{◌≡◌, rules, ap, Me}
use Rattle.nw_shared_store.specs.Locked.{Current}
use Rattle.nw_shared_store.specs.Rule.{SeatView}
use Rattle.nw_shared_store.specs.Session.{IsTurnedAway}
use Rattle.nw_shared_store.specs.declared.error.Refusal.{Refusal}
use Rattle.nw_shared_store.specs.declared.error.Refusal.TheVariants as refusals
use Rattle.nw_shared_store.proofs.Seated.{as_told, has_value, may_tell, of_cause, took_in}
use Rattle.nw_shared_store.proofs.lock.take_in.Goals as goal

pub returns-in_err-try_take-clause-refused : goal.returns-in_err-try_take-clause-refused
returns-in_err-try_take-clause-refused g c = of_cause (IsTurnedAway c.args.seat.now.me c.try_take.new.seat.me) refusals.Busy c.from_residual.result (search rules) (search rules)

pub run_at-requires-clause-locked : goal.run_at-requires-clause-locked
run_at-requires-clause-locked g c = has_value g.S.Scheme.accepts _ _ c.in_ok-try_take.ensures.got

pub end_telling-requires-clause-same : goal.end_telling-requires-clause-same
end_telling-requires-clause-same g c = may_tell g.S.Scheme.accepts _ _ _ c.args.run _ c.in_ok-try_take.ensures.got c.run_at.ensures.same c.requires.run c.if-run_at-run.true c.run_at.ensures.run

pub returns-then-run_at-run-clause-refused : goal.returns-then-run_at-run-clause-refused
returns-then-run_at-run-clause-refused g c = as_told c.args.seat.now.me.0 _ _ _ c.in_ok-try_take.ensures.got c.run_at.ensures.same c.end_telling.ensures.told

pub returns-clause-got : goal.returns-clause-got
returns-clause-got g c = took_in g.S.Scheme.accepts _ _ _ c.args.run _ c.in_ok-try_take.ensures.got c.run_at.ensures.same c.requires.run c.if-run_at-run.false c.run_at.ensures.run

pub returns-in_err-try_take-clause-journal : goal.returns-in_err-try_take-clause-journal
returns-in_err-try_take-clause-journal g c =
    let same : c.try_take.new.seat.me ≡ c.args.seat.now.me = search rules in
    of_cause (λ (why : Refusal). c.try_take.new.seat.me.0.journal ≡ c.args.seat.now.me.0.journal) refusals.Busy c.from_residual.result (ap (λ (m : Me Current SeatView). m.0.journal) same) (search rules)

pub returns-then-run_at-run-clause-journal : goal.returns-then-run_at-run-clause-journal
returns-then-run_at-run-clause-journal g c =
    ap (λ (m : Me Current SeatView). m.0.journal) (as_told c.args.seat.now.me.0 _ _ _ c.in_ok-try_take.ensures.got c.run_at.ensures.same c.end_telling.ensures.told)
