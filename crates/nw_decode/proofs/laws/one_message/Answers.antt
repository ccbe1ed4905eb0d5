use Rattle.nw_decode.proofs.OneText.{one_message}
use Rattle.nw_decode.proofs.laws.one_message.Goals as goal

pub returns : goal.returns
returns c = one_message
