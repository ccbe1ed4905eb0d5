use Rattle.nw_generation.proofs.Words.{◌≡◌, length}
use Rattle.nw_generation.specs.Entries.{AreHeads, Ascend, under}
use Rattle.nw_generation.proofs.index.find.Given as goal

abbrev pub invariant-loop-heads : goal.invariant-loop-heads
invariant-loop-heads l = AreHeads l.heads l.left × Ascend l.left × (under l.left l.digest ≡ under l.entries l.digest)

abbrev pub decreases-loop-heads : goal.decreases-loop-heads
decreases-loop-heads l = length l.left
