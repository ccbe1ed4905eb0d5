-- The law of multiples, in the words of Curve.antt and Coding.antt.
use Rattle.std.specs.Prelude.{◌≡◌, ℕ, ◌+◌, ◌^◌, ◌<◌, List, Some}
use Rattle.nw_curve.specs.declared.curve.point.Point.{Point}
use Rattle.nw_curve.specs.Curve.{added, multiple}
use Rattle.nw_curve.specs.Coding.{encoded, decoded}

-- the sum of two multiples of a decoded key has the encoding of the multiple of the sum
abbrev pub MultiplesAdd : Type 0
MultiplesAdd =
    (bytes : List ℕ) (p : Point) (i j k m n : ℕ) → decoded bytes ≡ Some p → m < 2 ^ i → n < 2 ^ j → m + n < 2 ^ k
    → encoded (added (multiple i m p) (multiple j n p)) ≡ encoded (multiple k (m + n) p)
