use Rattle.nw_plain.proofs.Words.{from_entries, digest_cmp}
use Rattle.nw_plain.proofs.Freezing.{SoFar}
use Rattle.nw_plain.proofs.plain.Plain.complete_blocks.Given as goal

abbrev pub invariant-loop-slot : goal.invariant-loop-slot
invariant-loop-slot l = SoFar l.self.state l._slot-iterator (from_entries {R = digest_cmp} l.complete.entries)
