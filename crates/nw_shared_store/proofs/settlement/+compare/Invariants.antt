use Rattle.std.specs.Prelude.{length}
use Rattle.nw_shared_store.proofs.settlement.+compare.Given as goal

abbrev pub decreases-compare : goal.decreases-compare
decreases-compare g l = length l.sessions.now
