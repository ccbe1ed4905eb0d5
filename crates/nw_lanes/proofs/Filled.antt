-- A loop that fills a list from its front.
use Rattle.std.proofs.Common.{◌≡◌, ℕ, ◌+◌, ◌<◌, List, length, set, slice_index, ◌∙◌, arith, inl, inr}
use Rattle.std.proofs.lemmas.List.{get_or-set_same, get_or-set_other, length-set, map-set}
use Rattle.std.proofs.lemmas.Bool.{cases_lt}
use Rattle.nw_lanes.specs.Lanes.{lane}

-- the first i of n places hold f
abbrev pub IsFilled : List ℕ → ℕ → ℕ → (ℕ → ℕ) → Type 0
IsFilled xs i n f = (length xs ≡ n) × ((j : ℕ) → j < i → slice_index xs j ≡ f j)

pub filled_next : (xs : List ℕ) (i n y : ℕ) (f : ℕ → ℕ) → i < n → IsFilled xs i n f → y ≡ f i → IsFilled (set xs i y) (i + 1) n f
filled_next xs i n y f lt held e = (
  length-set xs i y ∙ held.0,
  λ j l. elim (cases_lt j i) [
    | inl a ↦ get_or-set_other xs i j y 0 (omega arith) ∙ held.1 j a
    | inr b ↦
        let same : i ≡ j = omega arith in
        rw (← same) (get_or-set_same xs i y 0 (omega (arith, held.0)) ∙ e)
  ],
)

-- the same in a lane
pub lane_filled_next : (w : List (List ℕ)) (x : List ℕ) (lane_of i n : ℕ) (f : ℕ → ℕ) → i < n → IsFilled (lane w lane_of) i n f → slice_index x lane_of ≡ f i
    → IsFilled (lane (set w i x) lane_of) (i + 1) n f
lane_filled_next w x lane_of i n f lt held e =
    rw (map-set (λ (y : List ℕ). slice_index y lane_of) w i x) (filled_next (lane w lane_of) i n (slice_index x lane_of) f lt held e)
