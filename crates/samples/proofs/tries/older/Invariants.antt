use Rattle.std.specs.FinMap.{from_entries}
use Rattle.samples.specs.Sample.{AreBases}
use Rattle.samples.proofs.tries.older.Given as goal

abbrev pub invariant-loop-author : goal.invariant-loop-author
invariant-loop-author l = AreBases l.author (from_entries l.trie)
