use Rattle.std.proofs.Common.{◌≡◌, ℕ, ◌<◌, length, slice_index}
use Rattle.sha2.specs.Sha256.{digest_bytes}
use Rattle.nw_lanes.specs.Lanes.{lane, row}
use Rattle.nw_lanes.proofs.messages.write_finished.Given as goal

abbrev pub invariant-lanes : goal.invariant-lanes
invariant-lanes l =
    (length l.digests ≡ 8)
    × ((j : ℕ) → j < l.i → slice_index l.counts j ≡ l.k → row l.digests j ≡ digest_bytes (lane l.state j) 8)
    × ((j : ℕ) → j < 8 → (slice_index l.counts j ≡ l.k → ⊥) → row l.digests j ≡ row l.initial.digests j)
