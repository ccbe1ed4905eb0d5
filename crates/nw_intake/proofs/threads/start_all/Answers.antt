use Rattle.std.proofs.Common.{arith, ◌∷◌, [], ◌+◌, length, length-append, subst, sym, ap, ◌∙◌}
use Rattle.nw_intake.specs.Promised.{ArePromised, IsPromise}
use Rattle.nw_intake.proofs.Each.{each_nil, each_more}
use Rattle.nw_intake.proofs.threads.start_all.Goals as goal

pub loop-worker-init : goal.loop-worker-init
loop-worker-init g c =
    let e = c.new-handles.ensures.items in
    (ap length e, subst (ArePromised c.args.committee.now c.args.texts.now c.args.gate.now c.args.workers) (sym e) (each_nil (λ worker handle. IsPromise c.args.committee.now c.args.texts.now c.args.gate.now c.args.workers worker handle.promise)))

pub returns-in-Err-clause-few : goal.returns-in-Err-clause-few
returns-in-Err-clause-few g c = let h = c.loop-worker.invariant.0 in omega arith

pub returns-in-Err-clause-each : goal.returns-in-Err-clause-each
returns-in-Err-clause-each g c = c.loop-worker.invariant.1

pub loop-worker-preserved : goal.loop-worker-preserved
loop-worker-preserved g c =
    let e = c.in_ok-push-in-Ok.ensures.items in
    let old = c.loop-worker.handles.items in
    let ok = c.in-Ok.ensures.ok in
    let here : IsPromise c.args.committee.now c.args.texts.now c.args.gate.now c.args.workers (length old) c.in-Ok.handle.promise = record {
      has_committee = ap (λ p. p.committee.now) ok;
      has_texts = ap (λ p. p.texts.now) ok;
      has_gate = ap (λ p. p.gate.now) ok;
      has_workers = ap (λ p. p.workers) ok;
      has_worker = ap (λ p. p.worker) ok ∙ sym c.loop-worker.invariant.0;
    } in (
      ap length e ∙ (length-append old (c.in-Ok.handle ∷ []) ∙ ap (λ n. n + 1) c.loop-worker.invariant.0),
      subst (ArePromised c.args.committee.now c.args.texts.now c.args.gate.now c.args.workers) (sym e)
          (each_more (λ worker handle. IsPromise c.args.committee.now c.args.texts.now c.args.gate.now c.args.workers worker handle.promise) old c.in-Ok.handle c.loop-worker.invariant.1 here),
    )

pub returns-clause-few : goal.returns-clause-few
returns-clause-few g c = let h = c.loop-worker.invariant.0 in omega arith

pub returns-clause-each : goal.returns-clause-each
returns-clause-each g c = c.loop-worker.invariant.1
