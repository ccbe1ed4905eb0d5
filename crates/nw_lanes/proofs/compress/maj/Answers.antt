use Rattle.std.proofs.Common.{refl}
use Rattle.nw_lanes.proofs.compress.maj.Goals as goal

pub returns : goal.returns
returns c = rw (c.requires.x, c.requires.y, c.requires.z) refl
