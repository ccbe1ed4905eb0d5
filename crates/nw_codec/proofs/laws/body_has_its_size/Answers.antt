use Rattle.nw_codec.proofs.Sizes.{length-body}
use Rattle.nw_codec.proofs.laws.body_has_its_size.Goals as goal

pub returns : goal.returns
returns c = length-body
