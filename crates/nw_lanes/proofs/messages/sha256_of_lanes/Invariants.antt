use Rattle.std.proofs.Common.{◌≡◌, ℕ, ◌<◌, ◌≤◌, ◌/◌, length}
use Rattle.sha2.specs.Sha256.{hash_after, initial_hash_256, padded_message, sha256}
use Rattle.nw_lanes.specs.Lanes.{IsLanes, contents, lane, row}
use Rattle.nw_lanes.proofs.messages.sha256_of_lanes.Given as goal

abbrev pub invariant-steps : goal.invariant-steps
invariant-steps l =
    IsLanes l.state
    × ((i : ℕ) → i < 8 → l.k ≤ length (padded_message (row (contents l.messages) i)) / 64
    → lane l.state i ≡ hash_after initial_hash_256 (padded_message (row (contents l.messages) i)) l.k)
    × ((i : ℕ) → i < 8 → length (padded_message (row (contents l.messages) i)) / 64 ≤ l.k → row l.digests i ≡ sha256 (row (contents l.messages) i))
