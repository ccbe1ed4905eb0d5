use Rattle.std.proofs.Common.{length}
use Rattle.nw_prepared.proofs.votes.+first_bad.Given as goal

abbrev pub decreases-first_bad : goal.decreases-first_bad
decreases-first_bad l = length l.votes.now
