use Rattle.std.proofs.Common.{map, take}
use Rattle.nw_committee.specs.Committee.{AreDistinct}
use Rattle.nw_committee.proofs.distinct.are_distinct.Given as goal

-- the values read so far have distinct keys
abbrev pub invariant-loop-i : goal.invariant-loop-i
invariant-loop-i g l = AreDistinct (take l.i (map g.T.Keyed.key_of l.keyed))
