use Rattle.nw_generation.proofs.Words.{length}
use Rattle.std.proofs.Common.{◌+◌}
use Rattle.nw_generation.proofs.Merging.{IsMerging}
use Rattle.nw_generation.proofs.entries.merged.Given as goal

abbrev pub invariant-loop-entry : goal.invariant-loop-entry
invariant-loop-entry l = IsMerging l.initial.newer l.initial.older l.both.items l.newer l.older

abbrev pub decreases-loop-entry : goal.decreases-loop-entry
decreases-loop-entry l = length l.newer + length l.older
