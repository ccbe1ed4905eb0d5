use Rattle.nw_causal.proofs.Words.{◌≡◌, []}
use Rattle.nw_generation.specs.Seen.{HasUpTo}
use Rattle.nw_causal.proofs.Exploring.{Explores}
use Rattle.nw_causal.proofs.walks.ancestors.Given as goal

abbrev pub invariant-loop-level : goal.invariant-loop-level
invariant-loop-level l = record {
  explores : Explores l.view.frozen l.digest l.found.items l.level.items l.round;
  descends : HasUpTo l.view.frozen.blocks l.round l.descent;
  floor : l.floor ≡ l.view.frozen.floor;
  empty : l.parents.items ≡ [];
}

abbrev pub decreases-loop-level : goal.decreases-loop-level
decreases-loop-level l = l.round
