use Rattle.std.proofs.Common.{refl}
use Rattle.nw_lanes.proofs.compress.big_sigma1.Goals as goal

pub returns : goal.returns
returns c = rw c.requires refl
