use Rattle.std.specs.Prelude.{length}
use Rattle.nw_store.proofs.settlement.+add_up.Given as goal

abbrev pub decreases-add_up : goal.decreases-add_up
decreases-add_up g l = length l.sessions.now
