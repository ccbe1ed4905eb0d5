use Rattle.nw_dag.proofs.completions.Completions.reserve.Goals as goal
use Rattle.nw_dag.proofs.completions.Completions.reserve.Goals.{then-most-blocks, else-most-blocks}

pub returns-in_err-reserve-clause-kept : goal.returns-in_err-reserve-clause-kept
returns-in_err-reserve-clause-kept c = λ d among ready. rw c.reserve.ensures.items (elim c.if-most-blocks.branch [
  | then-most-blocks w ↦ rw w.self-is ((w.drop_stale.ensures.fresh d).1 (among, ready))
  | else-most-blocks w ↦ rw w.self-is among
])

pub returns-clause-kept : goal.returns-clause-kept
returns-clause-kept c = λ d among ready. rw c.reserve.ensures.items (elim c.if-most-blocks.branch [
  | then-most-blocks w ↦ rw w.self-is ((w.drop_stale.ensures.fresh d).1 (among, ready))
  | else-most-blocks w ↦ rw w.self-is among
])
