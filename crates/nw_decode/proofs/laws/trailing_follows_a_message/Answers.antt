use Rattle.nw_decode.proofs.TrailingBytes.{trailing_is}
use Rattle.nw_decode.proofs.laws.trailing_follows_a_message.Goals as goal

pub returns : goal.returns
returns c = trailing_is
