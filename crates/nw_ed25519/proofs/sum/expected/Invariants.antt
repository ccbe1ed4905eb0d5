use Rattle.nw_ed25519.proofs.Words.{◌-◌, drop, point_of, Affine, IsOnCurve, Represents, negative_of, combination, affine_base}
use Rattle.nw_ed25519.specs.Digits.{number_from_digits}
use Rattle.nw_ed25519.proofs.sum.expected.Given as goal

abbrev pub invariant-loop-done : goal.invariant-loop-done
invariant-loop-done l =
    (key : Affine) → IsOnCurve key → Represents l.fn.point key
    → Represents (point_of l.partial) (combination (number_from_digits (drop (l.places - l.done) l.base_digits)) (number_from_digits (drop (l.places - l.done) l.key_digits)) affine_base (negative_of key))
