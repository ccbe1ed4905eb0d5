-- The multiple by double-and-add is the multiple of the affine group, and equal points have equal encodings: any way to compute a multiple gives the same
-- bytes.
use Rattle.std.proofs.Common.{◌≡◌, ℕ, zero, suc, ◌+◌, ◌*◌, ◌/◌, ◌%◌, ◌^◌, ◌<◌, Bool, true, false, List, ◌≢◌, refl, sym, ◌∙◌, ap, subst, arith, lit<, ◌==◌, if◌then◌else◌, rules}
use Rattle.std.proofs.Math.Nat.{mul_comm, mul_assoc, mod-lt}
use Rattle.std.specs.Hash.{le_bytes}
use Rattle.std.proofs.lemmas.Bool.Decides.{nat_tests}
use Rattle.nw_curve.specs.declared.curve.point.Point.{Point}
use Rattle.nw_curve.specs.Field.{prime as modulus}
use Rattle.nw_curve.specs.Curve.{added, doubled, multiple, identity}
use Rattle.nw_curve.specs.Coding.{encoded, is_odd}
use Rattle.nw_curve.proofs.Constants.{prime}
use Rattle.nw_curve.proofs.Congruence.{Congruent, equal, itself, chained, products, remainder}
use Rattle.nw_curve.proofs.Divisibility.{Divides}
use Rattle.nw_curve.proofs.AffineGroup.{Affine, IsOnCurve, times, times_valid, times_sum, inverse, inverse_is, same_number}
use Rattle.nw_curve.proofs.Extended.{Represents, added_represents, doubled_represents, identity_represents}

odd_or_even : (n : ℕ) → (n % 2 == 1) ≡ false → n % 2 ≢ 1
odd_or_even n h = grind (arith, nat_tests)

one_step : (n k : ℕ) (p q : Point) (a : Affine) → IsOnCurve a → Represents p a → Represents q (times (k + k) a) → k ≡ n / 2 → (b : Bool) → (n % 2 == 1) ≡ b
    → Represents (if b then added q p else q) (times n a)
unfolding times
one_step n k p q a va r s half true h =
    let odd : n % 2 ≡ 1 = search rules in
    let e : n ≡ suc (k + k) = omega arith in
    subst (λ (j : ℕ). Represents (added q p) (times j a)) (sym e) (added_represents q p (times (k + k) a) a (times_valid (k + k) a va) va s r)
one_step n k p q a va r s half false h =
    let even = odd_or_even n h in
    let e : n ≡ k + k = omega arith in
    subst (λ (j : ℕ). Represents q (times j a)) (sym e) s

-- the multiple by double-and-add represents the multiple
pub multiple_represents : (bits n : ℕ) (p : Point) (a : Affine) → IsOnCurve a → Represents p a → n < 2 ^ bits → Represents (multiple bits n p) (times n a)
unfolding multiple times
multiple_represents zero n p a va r h =
    let z : n ≡ 0 = omega arith in
    subst (λ (k : ℕ). Represents identity (times k a)) (sym z) identity_represents
multiple_represents (suc bits) n p a va r h =
    let k = n / 2 in
    let q = doubled (multiple bits k p) in
    let ih = multiple_represents bits k p a va r (omega arith) in
    let double = subst (Represents q) (sym (times_sum k k a va)) (doubled_represents (multiple bits k p) (times k a) (times_valid k a va) ih) in
    one_step n k p q a va r double refl (n % 2 == 1) refl

-- the 32 bytes of an affine point: 255 bits of y, and then the lowest bit of x
abbrev pub encoding : Affine → List ℕ
encoding a = le_bytes 32 (a.y + (if is_odd a.x then 2 ^ 255 else 0))

coordinate : (x above z : ℕ) → x < prime → Congruent prime above (x * z) → ¬ (Divides prime z) → above * inverse z % prime ≡ x
coordinate x above z h c n =
    same_number (above * inverse z % prime) x (mod-lt (above * inverse z) (lit< tt)) h
    (chained remainder (chained (products c itself) (chained (equal (mul_assoc x z (inverse z) ∙ ap (λ (k : ℕ). x * k) (mul_comm z (inverse z)))) (chained (products itself (inverse_is z n)) (equal (omega arith))))))

-- the encoding of a represented point is the affine point's
pub encoded_is : (p : Point) (a : Affine) → IsOnCurve a → Represents p a → encoded p ≡ encoding a
unfolding encoded modulus
encoded_is p a va r =
    let ex = coordinate a.x p.x p.z va.x_below r.x r.z_not_zero in
    let ey = coordinate a.y p.y p.z va.y_below r.y r.z_not_zero in
    rw (ex, ey) refl

-- points that represent one affine point have one encoding
pub encodings_equal : (p q : Point) (a : Affine) → IsOnCurve a → Represents p a → Represents q a → encoded p ≡ encoded q
encodings_equal p q a va r s = encoded_is p a va r ∙ sym (encoded_is q a va s)

-- the sum of two multiples is the multiple of the sum
pub encoded_multiples : (i j k m n : ℕ) (p : Point) (a : Affine) → IsOnCurve a → Represents p a → m < 2 ^ i → n < 2 ^ j → m + n < 2 ^ k
    → encoded (added (multiple i m p) (multiple j n p)) ≡ encoded (multiple k (m + n) p)
encoded_multiples i j k m n p a va r hm hn h =
    let x = times m a in
    let y = times n a in
    let vx = times_valid m a va in
    let vy = times_valid n a va in
    let left = added_represents (multiple i m p) (multiple j n p) x y vx vy (multiple_represents i m p a va r hm) (multiple_represents j n p a va r hn) in
    encodings_equal (added (multiple i m p) (multiple j n p)) (multiple k (m + n) p) (times (m + n) a) (times_valid (m + n) a va) (subst (Represents (added (multiple i m p) (multiple j n p))) (sym (times_sum m n a va)) left)
    (multiple_represents k (m + n) p a va r h)
