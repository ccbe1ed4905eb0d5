use Rattle.std.specs.Vec.Iter.{into_iter_items}
use Rattle.nw_intake.proofs.Joint.{Joins}
use Rattle.nw_intake.proofs.threads.joined.Given as goal

abbrev pub invariant-loop-result : goal.invariant-loop-result
invariant-loop-result g l = Joins l.fn.results.items l.shares.items l.shut (into_iter_items l.result-iterator)
