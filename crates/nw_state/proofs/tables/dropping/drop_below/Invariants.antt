use Rattle.nw_state.proofs.Words.{take}
use Rattle.nw_state.specs.Dropping.{DropsBelow}
use Rattle.nw_state.proofs.tables.dropping.drop_below.Given as goal

abbrev pub invariant-loop-digest : goal.invariant-loop-digest
invariant-loop-digest g l = DropsBelow g.V.InRound.round_of l.round (take l.digest-index l.digests) l.fn.entries l.entries
