use Rattle.nw_generation.proofs.Words.{◌≡◌, length, get}
use Rattle.nw_generation.specs.Seen.{union}
use Rattle.nw_generation.proofs.descent.Descent.get.Given as goal

abbrev pub invariant-loop-generation : goal.invariant-loop-generation
invariant-loop-generation l = get (union l.left) l.digest ≡ get (union l.initial.left) l.digest

abbrev pub decreases-loop-generation : goal.decreases-loop-generation
decreases-loop-generation l = length l.left
