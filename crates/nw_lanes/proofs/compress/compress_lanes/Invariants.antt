use Rattle.std.proofs.Common.{◌≡◌, ℕ, ◌<◌, ◌*◌, All}
use Rattle.sha2.specs.Sha256.{IsRoundsAt, IsWindow, rounds, schedule, word_at}
use Rattle.nw_lanes.specs.Lanes.{IsLanes, IsVector, lane, row}
use Rattle.nw_lanes.proofs.Filled.{IsFilled}
use Rattle.nw_lanes.proofs.compress.compress_lanes.Given as goal

abbrev pub invariant-load : goal.invariant-load
invariant-load l = ((j : ℕ) → j < 8 → IsFilled (lane l.w j) l.t 16 (λ k. word_at (row l.blocks j) (4 * k))) × All IsVector l.w

abbrev pub invariant-first : goal.invariant-first
invariant-first l =
    ((j : ℕ) → j < 8 → IsWindow (lane l.w j) (schedule (row l.blocks j) 48) 16 × (lane l.v j ≡ rounds (lane l.state j) (schedule (row l.blocks j) 48) l.t))
    × IsLanes l.v × All IsVector l.w

abbrev pub invariant-rest : goal.invariant-rest
invariant-rest l =
    ((j : ℕ) → j < 8 → IsRoundsAt (row l.blocks j) (lane l.state j) (lane l.w j) (lane l.v j) l.t)
    × IsLanes l.v × All IsVector l.w
