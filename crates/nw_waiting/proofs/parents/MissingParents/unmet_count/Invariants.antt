use Rattle.nw_waiting.proofs.Words.{◌≡◌, length, take, filter}
use Rattle.std.specs.Prelude.{◌≤◌}
use Rattle.nw_waiting.specs.Parted.{is_one}
use Rattle.nw_waiting.proofs.parents.MissingParents.unmet_count.Given as goal

-- so many of the missing parents read so far are unmet
abbrev pub invariant-loop-wanted : goal.invariant-loop-wanted
invariant-loop-wanted g l = (l.count ≡ length (filter (is_one l.self-inside.unmet.keys) (take l.wanted-index l.wanted-items))) × (l.count ≤ l.wanted-index)
