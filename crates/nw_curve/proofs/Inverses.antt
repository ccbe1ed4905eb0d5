-- Inverses modulo the prime: that of a product gives those of its factors.
use Rattle.std.proofs.Common.{◌≡◌, ℕ, ◌*◌, ◌%◌, refl, ◌∙◌, ap, arith}
use Rattle.std.proofs.Math.Nat.{mul_comm}
use Rattle.nw_curve.specs.Field.{prime as modulus, times, inverse as field_inverse}
use Rattle.nw_curve.specs.Inverse.{IsInverse, HasInverse}
use Rattle.nw_curve.specs.declared.curve.point.Point.{Point}
use Rattle.nw_curve.specs.Coding.{scaled, encoded}
use Rattle.nw_curve.specs.Completed.{normalized}
use Rattle.nw_curve.proofs.Constants.{prime}
use Rattle.nw_curve.proofs.Congruence.{Congruent, equal, itself, turned, chained, products, remainder}
use Rattle.nw_curve.proofs.Divisibility.{Divides, divides_multiple, zero_from_divides}
use Rattle.nw_curve.proofs.AffineGroup.{inverse, inverse_is}

-- an inverse is a number whose product with the first is congruent to 1
to_one : (a i : ℕ) → IsInverse a i → Congruent prime (a * i) 1
unfolding modulus
to_one a i h = record { remainders = h }

from_one : (a i : ℕ) → Congruent prime (a * i) 1 → IsInverse a i
unfolding modulus
from_one a i h = h.remainders

not_divided : (a i : ℕ) → IsInverse a i → ¬ (Divides prime a)
not_divided a i h d =
    let one = (to_one a i h).remainders in
    let zero = (zero_from_divides (divides_multiple d i)).remainders in
    absurd (omega (arith, one, zero))

-- a number that the prime does not divide has an inverse: its power
power_inverts : (a : ℕ) → ¬ (Divides prime a) → IsInverse a (inverse a)
power_inverts a h = from_one a (inverse a) (chained (equal (mul_comm a (inverse a))) (inverse_is a h))

pub not_divided-has_inverse : (a : ℕ) → ¬ (Divides prime a) → HasInverse a
not_divided-has_inverse a h = (inverse a, power_inverts a h)

-- the power is an inverse of each number that has one
pub inverse_of : (a r : ℕ) → HasInverse a → r ≡ field_inverse a → IsInverse a r
unfolding modulus
inverse_of a r h e = rw e (power_inverts a (not_divided a h.0 h.1))

-- 1 is its own inverse
pub one-has_inverse : (n : ℕ) → n ≡ 1 → HasInverse n
unfolding modulus
one-has_inverse n e = rw e (1, refl)

-- products of numbers with inverses have inverses
pub product-has_inverse : (a b r : ℕ) → HasInverse a → HasInverse b → r ≡ times a b → HasInverse r
unfolding modulus
product-has_inverse a b r h k e =
    let swap : (a * b) * (h.0 * k.0) ≡ (a * h.0) * (b * k.0) = omega arith in
    let both = products (to_one a h.0 h.1) (to_one b k.0 k.1) in
    let one : Congruent prime (r * (h.0 * k.0)) 1 = chained (products (chained (equal e) remainder) itself) (chained (equal swap) both) in
    (h.0 * k.0, from_one r (h.0 * k.0) one)

-- an inverse of a product, times the second factor, is an inverse of the first
pub first_inverse : (a b p w r : ℕ) → p ≡ times a b → IsInverse p w → r ≡ times w b → IsInverse a r
unfolding modulus
first_inverse a b p w r ep h er =
    let swap : a * (w * b) ≡ (a * b) * w = omega arith in
    let whole : Congruent prime (a * r) ((a * b) * w) = chained (products itself (chained (equal er) remainder)) (equal swap) in
    let same : Congruent prime (p * w) ((a * b) * w) = products (chained (equal ep) remainder) itself in
    from_one a r (chained whole (chained (turned same) (to_one p w h)))

-- times the first factor, it is an inverse of the second
pub second_inverse : (a b p w r : ℕ) → p ≡ times a b → IsInverse p w → r ≡ times w a → IsInverse b r
second_inverse a b p w r ep h er = first_inverse b a p w r (ep ∙ ap (λ (n : ℕ). n % modulus) (mul_comm a b)) h er

-- two inverses of Z give the same coordinate
same_coordinate : (x z i : ℕ) → IsInverse z i → times x i ≡ times x (inverse z)
unfolding modulus
same_coordinate x z i h =
    let v = inverse z in
    let n = not_divided z i h in
    let back : Congruent prime ((x * i) * (v * z)) ((x * i) * 1) = products itself (inverse_is z n) in
    let forth : Congruent prime ((x * v) * (z * i)) ((x * v) * 1) = products itself (to_one z i h) in
    let swap : (x * i) * (v * z) ≡ (x * v) * (z * i) = omega arith in
    let first : x * i ≡ (x * i) * 1 = omega arith in
    let last : (x * v) * 1 ≡ x * v = omega arith in
    (chained (chained (equal first) (turned back)) (chained (equal swap) (chained forth (equal last)))).remainders

-- so X and Y times any inverse of Z give the point's encoding
pub scaled_encodes : (p : Point) (i : ℕ) → IsInverse p.z i → scaled p i ≡ encoded p
unfolding encoded modulus
scaled_encodes p i h = rw (same_coordinate p.x p.z i h, same_coordinate p.y p.z i h) refl

-- and X, Y and T give the point with Z 1
pub scaled_normalizes : (p : Point) (i : ℕ) → IsInverse p.z i → let q : Point = record { x = times p.x i; y = times p.y i; z = 1; t = times p.t i } in q ≡ normalized p
unfolding normalized modulus
scaled_normalizes p i h = rw (same_coordinate p.x p.z i h, same_coordinate p.y p.z i h, same_coordinate p.t p.z i h) refl
