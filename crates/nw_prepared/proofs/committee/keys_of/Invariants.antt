use Rattle.std.proofs.Common.{◌≡◌, take}
use Rattle.nw_committee.specs.Committee.{keys}
use Rattle.nw_prepared.specs.Keys.{prepared_keys}
use Rattle.nw_prepared.proofs.committee.keys_of.Given as goal

-- the keys so far are prepared
abbrev pub invariant-loop-number : goal.invariant-loop-number
invariant-loop-number l = prepared_keys l.prepared.items ≡ take l.number (keys l.committee)
