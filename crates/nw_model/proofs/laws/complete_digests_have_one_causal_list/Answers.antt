use Rattle.nw_model.proofs.Existing.{one_causal_list}
use Rattle.nw_model.proofs.laws.complete_digests_have_one_causal_list.Goals as goal

pub returns : goal.returns
returns c = one_causal_list
