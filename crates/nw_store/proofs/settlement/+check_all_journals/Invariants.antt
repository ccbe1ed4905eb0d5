use Rattle.std.specs.Prelude.{length}
use Rattle.nw_store.proofs.settlement.+check_all_journals.Given as goal

abbrev pub decreases-check_all_journals : goal.decreases-check_all_journals
decreases-check_all_journals g l = length l.sessions.now
