-- Vectors of eight lanes, lane by lane.
use Rattle.std.proofs.Common.{◌≡◌, ℕ, zero, suc, List, [], ◌∷◌, ◌<◌, slice_index, refl, arith}
use Rattle.nw_lanes.specs.Lanes.{lane, of_lanes, vectors}

pub of_lanes_at : (f : ℕ → ℕ) (i : ℕ) → i < 8 → slice_index (of_lanes f) i ≡ f i
of_lanes_at f zero lt = refl
of_lanes_at f (suc zero) lt = refl
of_lanes_at f (suc (suc zero)) lt = refl
of_lanes_at f (suc (suc (suc zero))) lt = refl
of_lanes_at f (suc (suc (suc (suc zero)))) lt = refl
of_lanes_at f (suc (suc (suc (suc (suc zero))))) lt = refl
of_lanes_at f (suc (suc (suc (suc (suc (suc zero)))))) lt = refl
of_lanes_at f (suc (suc (suc (suc (suc (suc (suc zero))))))) lt = refl
of_lanes_at f (suc (suc (suc (suc (suc (suc (suc (suc i)))))))) lt = absurd (omega arith)

pub lane_at : (s : ℕ → List ℕ) (i : ℕ) → i < 8 → lane (vectors s) i
    ≡ slice_index (s i) 0 ∷ slice_index (s i) 1 ∷ slice_index (s i) 2 ∷ slice_index (s i) 3
    ∷ slice_index (s i) 4 ∷ slice_index (s i) 5 ∷ slice_index (s i) 6 ∷ slice_index (s i) 7 ∷ []
lane_at s zero lt = refl
lane_at s (suc zero) lt = refl
lane_at s (suc (suc zero)) lt = refl
lane_at s (suc (suc (suc zero))) lt = refl
lane_at s (suc (suc (suc (suc zero)))) lt = refl
lane_at s (suc (suc (suc (suc (suc zero))))) lt = refl
lane_at s (suc (suc (suc (suc (suc (suc zero)))))) lt = refl
lane_at s (suc (suc (suc (suc (suc (suc (suc zero))))))) lt = refl
lane_at s (suc (suc (suc (suc (suc (suc (suc (suc i)))))))) lt = absurd (omega arith)
