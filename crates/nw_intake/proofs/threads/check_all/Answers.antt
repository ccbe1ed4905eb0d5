use Rattle.std.proofs.Common.{◌<◌, subst, sym, ◌∙◌, arith}
use Rattle.std.proofs.lemmas.Result.{err_from_is_err_and}
use Rattle.nw_intake.specs.Faults.{IsWorkerCount}
use Rattle.nw_intake.specs.Answers.{IsDealt}
use Rattle.nw_intake.specs.Shares.{AreShareResults}
use Rattle.nw_intake.proofs.Whole.{whole_answers, joint_fault}
use Rattle.nw_intake.proofs.threads.check_all.Goals as goal

pub returns-in_err-shares-clause-fault : goal.returns-in_err-shares-clause-fault
returns-in_err-shares-clause-fault g c =
    let crew : IsWorkerCount c.args.workers = let some = c.if-workers-eq0.false in let most = c.if-workers-gt-MAX_WORKERS.false in (omega arith, omega arith) in
    let p = err_from_is_err_and c.from_residual-in_err-shares.result c.from_residual-in_err-shares.ensures.1 in
    let results = subst (λ ts. AreShareResults g.S.Scheme.accepts c.args.committee.now ts (g.G.Gate.says c.args.gate.now) c.args.workers c.in_ok-results.results.items) c.as_slice.ensures.value c.in_ok-results.ensures in
    let h = joint_fault g.S.Scheme.accepts c.args.committee.now c.args.texts.items (g.G.Gate.says c.args.gate.now) c.args.workers c.in_ok-results.results.items c.in_err-shares.field-0.0 crew results c.in_err-shares.ensures.fault in
    rw (p.1, p.2) h

pub returns-clause-checked : goal.returns-clause-checked
returns-clause-checked g c =
    let results = subst (λ ts. AreShareResults g.S.Scheme.accepts c.args.committee.now ts (g.G.Gate.says c.args.gate.now) c.args.workers c.in_ok-results.results.items) c.as_slice.ensures.value c.in_ok-results.ensures in
    let given = subst (AreShareResults g.S.Scheme.accepts c.args.committee.now c.args.texts.items (g.G.Gate.says c.args.gate.now) c.args.workers) c.in_ok-shares.ensures.shares.0 results in
    let shares = c.in_ok-shares.shares.items in
    let some : 0 < c.args.workers = let n = c.if-workers-eq0.false in omega arith in
    whole_answers g.S.Scheme.accepts c.args.committee.now c.args.texts.items (g.G.Gate.says c.args.gate.now) c.args.workers shares c.in_ok-put_in_order.field-0.items some c.in_ok-shares.ensures.shares.1 given
    (λ whole dealt. c.in_ok-put_in_order.ensures whole (subst (λ n. IsDealt whole n shares) (sym (c.len.ensures ∙ c.args.texts.ok.0)) dealt))
