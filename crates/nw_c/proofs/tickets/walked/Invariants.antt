use Rattle.std.proofs.Common.{◌≡◌, ◌++◌}
use Rattle.std.specs.Vec.Iter.{into_iter_items}
use Rattle.nw_causal.specs.Looked.{blocks}
use Rattle.nw_c.proofs.tickets.walked.Given as goal

abbrev pub invariant-loop-ancestor : goal.invariant-loop-ancestor
invariant-loop-ancestor l = l.list.items ++ blocks (into_iter_items l.ancestor-iterator) ≡ blocks (into_iter_items l.initial.ancestor-iterator)
