use Rattle.nw_model.proofs.Firsts.{one_vote_for_a_slot}
use Rattle.nw_model.proofs.laws.legal_histories_vote_once.Goals as goal

pub returns : goal.returns
returns c = one_vote_for_a_slot
