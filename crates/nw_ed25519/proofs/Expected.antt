-- The point that a verification compares with R, [s]B - [k]A, is one affine point: any computation that represents it gives the same 32 bytes.
use Rattle.nw_ed25519.proofs.Words.{◌≡◌, ℕ, ◌^◌, ◌<◌, List, Some, sym, ◌∙◌, ap, subst, Point, base, added, negated, encoded, decoded, Affine, IsOnCurve, times_valid, Represents, added_represents, negative_of, negative_valid, negated_represents, affine_base, base_valid, base_represents, coordinates, PointIfAny, decoded_point}
use Rattle.nw_ed25519.specs.Accepts.{expected}
use Rattle.nw_curve.specs.Curve.{multiple}
use Rattle.nw_curve.proofs.AffineGroup.{affine_sum, sum_valid, times}
use Rattle.nw_curve.proofs.Negatives.{times_negative}
use Rattle.nw_curve.proofs.Represented.{multiple_represents, encoding, encoded_is}

-- s B + k (-A)
abbrev pub expected_point : ℕ → ℕ → Affine → Affine
expected_point s k a = affine_sum (times s affine_base) (times k (negative_of a))

pub expected_valid : (s k : ℕ) (a : Affine) → IsOnCurve a → IsOnCurve (expected_point s k a)
expected_valid s k a u = sum_valid (times s affine_base) (times k (negative_of a)) (times_valid s affine_base base_valid) (times_valid k (negative_of a) (negative_valid a u))

-- the expected bytes are the encoding of s B + k (-A)
pub expected_is : (s k : ℕ) (p : Point) (a : Affine) → IsOnCurve a → Represents p a → s < 2 ^ 253 → k < 2 ^ 253 → expected s k p ≡ encoding (expected_point s k a)
unfolding expected
expected_is s k p a u r hs hk =
    let x = times s affine_base in
    let y = times k a in
    let vx = times_valid s affine_base base_valid in
    let vy = times_valid k a u in
    let sum = added_represents (multiple 253 s base) (negated (multiple 253 k p)) x (negative_of y) vx (negative_valid y vy)
    (multiple_represents 253 s base affine_base base_valid base_represents hs)
    (negated_represents (multiple 253 k p) y vy (multiple_represents 253 k p a u r hk)) in
    encoded_is (added (multiple 253 s base) (negated (multiple 253 k p))) (affine_sum x (negative_of y)) (sum_valid x (negative_of y) vx (negative_valid y vy)) sum
    ∙ ap (λ (b : Affine). encoding (affine_sum x b)) (sym (times_negative k a u))

-- so any point q that represents s B + k (-A) has the expected bytes, for a key that decodes to p
pub expected_of_key : (s k : ℕ) (bytes : List ℕ) (p q : Point) → decoded bytes ≡ Some p → s < 2 ^ 253 → k < 2 ^ 253
    → Represents q (expected_point s k (coordinates p)) → encoded q ≡ expected s k p
expected_of_key s k bytes p q d hs hk r =
    let point = subst PointIfAny d (decoded_point bytes) in
    encoded_is q (expected_point s k (coordinates p)) (expected_valid s k (coordinates p) point.0) r ∙ sym (expected_is s k p (coordinates p) point.0 point.1 hs hk)
