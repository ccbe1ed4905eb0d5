use Rattle.nw_waiting.proofs.Words.{◌≡◌, take, filter}
use Rattle.nw_waiting.specs.Parted.{is_one}
use Rattle.nw_waiting.proofs.parents.MissingParents.unmet_of.Given as goal

-- the list has the unmet ones of the missing parents read so far
abbrev pub invariant-loop-wanted : goal.invariant-loop-wanted
invariant-loop-wanted g l = l.unmet.items ≡ filter (is_one l.self-inside.unmet.keys) (take l.wanted-index l.wanted-items)
