-- Odd multiples of a point, one after the other.
use Rattle.std.proofs.Common.{◌≡◌, ℕ, suc, refl}
use Rattle.nw_curve.specs.Curve.{added, doubled}
use Rattle.nw_curve.specs.Table.{odd_multiple}
use Rattle.nw_curve.specs.declared.curve.point.Point.{Point}

pub first_multiple : (p : Point) → p ≡ odd_multiple 0 p
unfolding odd_multiple
first_multiple p = refl

pub next_multiple : (i : ℕ) (p q m n : Point) → q ≡ doubled p → m ≡ odd_multiple i p → n ≡ added m q → n ≡ odd_multiple (suc i) p
unfolding odd_multiple
next_multiple i p q m n eq em en = rw (en, em, eq) refl
