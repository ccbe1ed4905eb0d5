use Rattle.nw_model.proofs.Contained.{causal_lists_contained}
use Rattle.nw_model.proofs.laws.causal_lists_contain_those_of_their_blocks.Goals as goal

pub returns : goal.returns
returns c = causal_lists_contained
