use Rattle.nw_generation.proofs.Words.{All, take, Block, Digest}
use Rattle.nw_generation.specs.Seen.{IsWithin}
use Rattle.nw_generation.proofs.span.rounds_of.Given as goal

abbrev pub invariant-loop-entry : goal.invariant-loop-entry
invariant-loop-entry l = All (λ (e : Digest × Block). IsWithin l.rounds e.1.round) (take l.entry-index l.entries)
