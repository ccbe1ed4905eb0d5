use Rattle.nw_generation.proofs.Words.{take}
use Rattle.nw_generation.specs.Entries.{AreHeads}
use Rattle.nw_generation.proofs.index.heads_of.Given as goal

abbrev pub invariant-loop-entry : goal.invariant-loop-entry
invariant-loop-entry l = AreHeads l.heads.items (take l.entry-index l.entries)
