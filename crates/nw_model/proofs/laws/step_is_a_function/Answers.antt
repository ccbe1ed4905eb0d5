use Rattle.nw_model.proofs.OneReply.{one_reply}
use Rattle.nw_model.proofs.laws.step_is_a_function.Goals as goal

pub returns : goal.returns
returns c = one_reply
