use Rattle.nw_generation.proofs.Words.{◌≡◌, take}
use Rattle.nw_generation.proofs.generations.shared.Given as goal

abbrev pub invariant-loop-generation : goal.invariant-loop-generation
invariant-loop-generation l = l.list.items ≡ take l.generation-index l.generations
