use Rattle.nw_rounds.proofs.Words.{◌≡◌, filter, nat_le}
use Rattle.std.specs.BTreeMap.{btree_map_len}
use Rattle.nw_rounds.proofs.rounds.Rounds.drop_below.Given as goal

-- no entry of the round or a higher one has been dropped
abbrev pub invariant-loop-self : goal.invariant-loop-self
invariant-loop-self g l = filter (λ e. nat_le l.round e.0.0.0) l.self-inside.digests.entries ≡ filter (λ e. nat_le l.round e.0.0.0) l.initial.self-inside.digests.entries

abbrev pub decreases-loop-self : goal.decreases-loop-self
decreases-loop-self g l = btree_map_len l.self-inside.digests
