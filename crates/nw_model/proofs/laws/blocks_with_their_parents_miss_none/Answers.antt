use Rattle.nw_model.proofs.NoneMissing.{none_missing}
use Rattle.nw_model.proofs.laws.blocks_with_their_parents_miss_none.Goals as goal

pub returns : goal.returns
returns c = none_missing
