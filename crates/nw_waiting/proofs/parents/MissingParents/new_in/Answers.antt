use Rattle.nw_waiting.proofs.Parted.{nothing_unmet}
use Rattle.nw_waiting.proofs.parents.MissingParents.new_in.Goals as goal

pub returns-clause-unmet : goal.returns-clause-unmet
returns-clause-unmet g c = nothing_unmet _ c.new_in.result c.new_in.ensures
