use Rattle.nw_generation.proofs.Words.{◌≡◌, length, get, option_or, Digest}
use Rattle.nw_generation.specs.Entries.{Ascend, under}
use Rattle.nw_generation.specs.Seen.{union}
use Rattle.nw_generation.proofs.generations.joined_entries.Given as goal

abbrev pub invariant-loop-generation : goal.invariant-loop-generation
invariant-loop-generation l = Ascend l.entries.items × ((d : Digest) → option_or (under l.entries.items d) (get (union l.left) d) ≡ get (union l.generations) d)

abbrev pub decreases-loop-generation : goal.decreases-loop-generation
decreases-loop-generation l = length l.left
