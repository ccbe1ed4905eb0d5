use Rattle.nw_model.proofs.Quorums.{causal_lists_reach_quorums}
use Rattle.nw_model.proofs.laws.causal_lists_reach_quorums.Goals as goal

pub returns : goal.returns
returns c = causal_lists_reach_quorums
