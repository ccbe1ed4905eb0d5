use Rattle.std.proofs.Common.{◌≡◌, map, take}
use Rattle.nw_committee.specs.Committee.{listed_weight}
use Rattle.nw_committee.proofs.committee.Committee.listed_weight.Given as goal

-- `weight` is the weight of the members that were read so far
abbrev pub invariant-loop-one : goal.invariant-loop-one
invariant-loop-one g l = l.weight ≡ listed_weight l.self (take l.one-index (map g.T.Numbered.number_of l.listed))
