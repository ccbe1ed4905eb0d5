use Rattle.std.proofs.Common.{map, take}
use Rattle.std.specs.Prelude.{Contains}
use Rattle.nw_committee.proofs.distinct.has_key.Given as goal

-- no value read so far has the key
abbrev pub invariant-loop-one : goal.invariant-loop-one
invariant-loop-one g l = Contains (take l.one-index (map g.T.Keyed.key_of l.keyed)) l.key → ⊥
