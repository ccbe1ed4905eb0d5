use Rattle.nw_causal.proofs.Words.{◌≡◌, ◌++◌}
use Rattle.std.specs.Vec.Iter.{into_iter_items}
use Rattle.nw_causal.specs.Looked.{blocks}
use Rattle.nw_causal.proofs.walks.walk.Given as goal

abbrev pub invariant-loop-ancestor : goal.invariant-loop-ancestor
invariant-loop-ancestor l = l.blocks.items ++ blocks (into_iter_items l.ancestor-iterator) ≡ blocks (into_iter_items l.initial.ancestor-iterator)
