-- Tables of odd multiples of a point.
use Rattle.std.specs.Prelude.{ℕ, zero, suc, ◌+◌, ◌*◌, ◌^◌, List, [], ◌∷◌, map, slice_index}
use Rattle.nw_curve.specs.Curve.{added, doubled}
use Rattle.nw_curve.specs.Completed.{prepared}
use Rattle.nw_curve.specs.declared.curve.point.Point.{Point}
use Rattle.nw_curve.specs.declared.curve.completed.Addend.{Addend}

-- the point times 2 i + 1: twice the point is added i times
unfoldable pub odd_multiple : ℕ → Point → Point
odd_multiple zero p = p
odd_multiple (suc i) p = added (odd_multiple i p) (doubled p)

-- the point times 1, 3, 5 and so on up to 15, prepared for sums
abbrev pub odd_multiples : Point → List Addend
odd_multiples p = map (λ i. prepared (odd_multiple i p)) (0 ∷ 1 ∷ 2 ∷ 3 ∷ 4 ∷ 5 ∷ 6 ∷ 7 ∷ [])

-- the number with these two halves of 128 bits, the lower one first
abbrev pub number_from_halves : List ℕ → ℕ
number_from_halves halves = slice_index halves 0 + 2 ^ 128 * slice_index halves 1
