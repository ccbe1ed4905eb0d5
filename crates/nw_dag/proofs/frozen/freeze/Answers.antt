use Rattle.nw_dag.proofs.Words.{arith, Contains, Digest}
use Rattle.nw_dag.proofs.Freezing.{frozen_all, frozen_fewer, frozen_kept, frozen_none, frozen_over}
use Rattle.nw_dag.specs.Lacking.{IsReady}
use Rattle.nw_dag.proofs.frozen.freeze.Goals as goal
use Rattle.nw_dag.proofs.frozen.freeze.Goals.{then-parts-eq-MAX_GENERATIONS+in_ok-all+in_ok-push, else-parts-eq-MAX_GENERATIONS+in_ok-push-2}

pub returns-then-listed-eq0-clause-all : goal.returns-then-listed-eq0-clause-all
returns-then-listed-eq0-clause-all c =
    frozen_none _ _ c.drop_stale.new.self.fresh.items _ (frozen_fewer _ _ _ _ _ c.requires (λ x among ready. (c.drop_stale.ensures.fresh x).1 (among, ready))) (omega (arith, c.if-listed-eq0.true, c.listed.ensures))

pub returns-then-listed-eq0-clause-frozen : goal.returns-then-listed-eq0-clause-frozen
returns-then-listed-eq0-clause-frozen c = frozen_fewer _ _ _ _ _ c.requires (λ x among ready. (c.drop_stale.ensures.fresh x).1 (among, ready))

pub returns-in_err-fresh-clause-frozen : goal.returns-in_err-fresh-clause-frozen
returns-in_err-fresh-clause-frozen c = frozen_fewer _ _ _ _ _ c.requires (λ x among ready. (c.sort.ensures.same x).1 ((c.drop_stale.ensures.fresh x).1 (among, ready)))

pub returns-in_err-all-clause-frozen : goal.returns-in_err-all-clause-frozen
returns-in_err-all-clause-frozen c = frozen_fewer _ _ _ _ _ c.requires (λ x among ready. (c.sort.ensures.same x).1 ((c.drop_stale.ensures.fresh x).1 (among, ready)))

pub returns-in_err-push-clause-frozen : goal.returns-in_err-push-clause-frozen
returns-in_err-push-clause-frozen c = frozen_fewer _ _ _ _ _ c.requires (λ x among ready. (c.sort.ensures.same x).1 ((c.drop_stale.ensures.fresh x).1 (among, ready)))

pub returns-in_err-push-2-clause-frozen : goal.returns-in_err-push-2-clause-frozen
returns-in_err-push-2-clause-frozen c = rw c.in_err-push-2.ensures.unchanged (frozen_fewer _ _ _ _ _ c.requires (λ x among ready. (c.sort.ensures.same x).1 ((c.drop_stale.ensures.fresh x).1 (among, ready))))

pub returns-clause-all : goal.returns-clause-all
returns-clause-all c =
    let s = c.args.held.now.state in
    let lacking = c.args.waits.now.missing.lacking in
    let fresh = c.sort.new.self.fresh.items in
    let fewer = frozen_fewer s lacking c.args.waits.now.completions.fresh.items fresh c.args.generations.now.blocks c.requires (λ x among ready. (c.sort.ensures.same x).1 ((c.drop_stale.ensures.fresh x).1 (among, ready))) in
    let ready : (d : Digest) → Contains fresh d → IsReady s lacking d = λ d among. ((c.drop_stale.ensures.fresh d).0 ((c.sort.ensures.same d).0 among)).1 in
    let of = rw c.as_slice.ensures.value at c.in_ok-fresh.ensures in
    elim c.if-parts-eq-MAX_GENERATIONS.branch [
      | then-parts-eq-MAX_GENERATIONS+in_ok-all+in_ok-push w ↦
          rw w.generations-is (frozen_over s lacking fresh w.in_ok-all.all.blocks c.in_ok-fresh.fresh w.push.new.self.blocks
          (frozen_kept s lacking fresh c.args.generations.now.blocks w.in_ok-all.all.blocks fewer (rw w.floor.ensures at w.in_ok-all.ensures.blocks)) ready of w.in_ok-push.ensures.blocks)
      | else-parts-eq-MAX_GENERATIONS+in_ok-push-2 w ↦
          rw w.generations-is (frozen_over s lacking fresh c.args.generations.now.blocks c.in_ok-fresh.fresh w.push-else-parts-eq-MAX_GENERATIONS.new.self.blocks fewer ready of w.in_ok-push-2.ensures.blocks)
    ]

pub returns-clause-frozen : goal.returns-clause-frozen
returns-clause-frozen c = frozen_all _ _ _ _ (returns-clause-all c)

pub freeze_held-requires : goal.freeze_held-requires
freeze_held-requires c = rw c.as_slice.ensures.value c.sort.ensures.ascending
