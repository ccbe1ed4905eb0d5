use Rattle.std.proofs.Common.{length}
use Rattle.nw_prepared.proofs.votes.+verdict_on.Given as goal

abbrev pub decreases-verdict_on : goal.decreases-verdict_on
decreases-verdict_on l = length l.votes.now
