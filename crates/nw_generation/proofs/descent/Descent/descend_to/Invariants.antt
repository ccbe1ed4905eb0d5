use Rattle.nw_generation.proofs.Words.{length}
use Rattle.nw_generation.specs.Seen.{HasUpTo, union}
use Rattle.nw_generation.proofs.descent.Descent.descend_to.Given as goal

abbrev pub invariant-loop-generation : goal.invariant-loop-generation
invariant-loop-generation l = HasUpTo (union l.initial.self-inside.generations.now) l.round (union l.self-inside.generations.now)

abbrev pub decreases-loop-generation : goal.decreases-loop-generation
decreases-loop-generation l = length l.self-inside.generations.now
