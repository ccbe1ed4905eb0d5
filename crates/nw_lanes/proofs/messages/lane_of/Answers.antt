use Rattle.std.proofs.Common.{refl}
use Rattle.nw_lanes.proofs.messages.lane_of.Goals as goal

pub returns : goal.returns
returns c = rw c.requires.lanes refl
