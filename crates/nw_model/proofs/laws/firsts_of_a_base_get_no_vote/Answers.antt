use Rattle.nw_model.proofs.Firsts.{no_vote_over_a_base}
use Rattle.nw_model.proofs.laws.firsts_of_a_base_get_no_vote.Goals as goal

pub returns : goal.returns
returns c = no_vote_over_a_base
