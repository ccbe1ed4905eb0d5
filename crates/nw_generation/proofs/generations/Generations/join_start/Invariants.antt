use Rattle.nw_generation.proofs.Words.{length}
use Rattle.nw_generation.proofs.generations.Generations.join_start.Given as goal

abbrev pub decreases-loop-generation : goal.decreases-loop-generation
decreases-loop-generation l = length l.left
