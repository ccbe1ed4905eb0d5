use Rattle.nw_check.proofs.Words.{map, take, All, IsMember}
use Rattle.nw_check.proofs.members.are_members.Given as goal

-- the numbers so far are members' numbers
abbrev pub invariant-loop-one : goal.invariant-loop-one
invariant-loop-one g l = All (IsMember l.committee) (take l.one-index (map g.T.Numbered.number_of l.listed))
