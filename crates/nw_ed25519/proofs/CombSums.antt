-- Sums over combs: a row represents multiples by powers of 2^16, and the digits of all rows make the number.
use Rattle.nw_ed25519.proofs.Words.{◌≡◌, ℕ, zero, suc, ◌+◌, ◌*◌, ◌/◌, ◌%◌, ◌^◌, ◌<◌, refl, sym, ◌∙◌, ap, subst, arith, div-div-eq-div-mul, pow-suc, mod-eq_of_lt, div-add-mod, pow-add, identity, doubled, normalized, Point, Affine, IsOnCurve, times_valid, Represents, added_represents, not_divided-has_inverse, combination, combination_of_zeros}
use Rattle.std.proofs.Math.Nat.{mod-one}
use Rattle.std.proofs.lemmas.Nat.{mod-pow-add}
use Rattle.nw_curve.proofs.AffineGroup.{times, neutral_sum}
use Rattle.nw_curve.proofs.Extended.{identity_represents}
use Rattle.nw_curve.proofs.Negatives.{times_product}
use Rattle.nw_curve.proofs.Normalized.{normalized_represents}
use Rattle.nw_curve.proofs.Tables.{entry_doubles, first_added, second_added, combination_doubled}
use Rattle.nw_ed25519.specs.Comb.{repeated, doubled_times, row_point, chunk, digit, with_rows, AreAllProper}

repeated_represents : (n : ℕ) (p : Point) (a : Affine) → IsOnCurve a → Represents p a → Represents (repeated n p) (times n a)
unfolding repeated times
repeated_represents zero p a u r = identity_represents
repeated_represents (suc n) p a u r = added_represents (repeated n p) p (times n a) a (times_valid n a u) u (repeated_represents n p a u r) r

doubled_represents : (n m : ℕ) (p : Point) (a : Affine) → IsOnCurve a → Represents p (times m a) → Represents (doubled_times n p) (times (2 ^ n * m) a)
unfolding doubled_times
doubled_represents zero m p a u r =
    let e : m ≡ 2 ^ 0 * m = omega arith in
    subst (λ (k : ℕ). Represents p (times k a)) e r
doubled_represents (suc n) m p a u r =
    let e : 2 ^ n * m + 2 ^ n * m ≡ 2 ^ suc n * m = rw pow-suc (omega arith) in
    subst (λ (k : ℕ). Represents (doubled (doubled_times n p)) (times k a)) e (entry_doubles (2 ^ n * m) (doubled_times n p) a u (doubled_represents n m p a u r))

-- the point of row r
row_represents : (r : ℕ) (p : Point) (a : Affine) → IsOnCurve a → Represents p a → Represents (row_point r p) (times (2 ^ (16 * r)) a)
unfolding row_point times
row_represents zero p a u r = subst (Represents p) (sym (neutral_sum a u)) r
row_represents (suc n) p a u r =
    let m = 2 ^ (16 * n) in
    let index : 16 + 16 * n ≡ 16 * suc n = omega arith in
    let e : 2 ^ 16 * m ≡ 2 ^ (16 * suc n) = sym (pow-add 2 16 (16 * n)) ∙ ap (λ (k : ℕ). 2 ^ k) index in
    subst (λ (k : ℕ). Represents (doubled_times 16 (row_point n p)) (times k a)) e (doubled_represents 16 m (row_point n p) a u (row_represents n p a u r))

-- a multiple of a row's point
multiple_represents : (r d : ℕ) (p : Point) (a : Affine) → IsOnCurve a → Represents p a → Represents (repeated d (row_point r p)) (times d (times (2 ^ (16 * r)) a))
multiple_represents r d p a u h = let m = 2 ^ (16 * r) in repeated_represents d (row_point r p) (times m a) (times_valid m a u) (row_represents r p a u h)

-- so the Z of each has an inverse
pub all_proper : (p : Point) (a : Affine) → IsOnCurve a → Represents p a → AreAllProper p
all_proper p a u h = λ r n. not_divided-has_inverse (repeated n (row_point r p)).z (multiple_represents r n p a u h).z_not_zero

-- the entry of a row
entry_represents : (r d : ℕ) (p : Point) (a : Affine) → IsOnCurve a → Represents p a → Represents (normalized (repeated d (row_point r p))) (times (d * 2 ^ (16 * r)) a)
entry_represents r d p a u h =
    let m = 2 ^ (16 * r) in
    let q = repeated d (row_point r p) in
    normalized_represents q (times (d * m) a) (subst (Represents q) (sym (times_product d m a u)) (multiple_represents r d p a u h))

-- the first rows by their digits of so many bits
unfoldable pub rows_value : ℕ → ℕ → ℕ → ℕ → ℕ
rows_value bits zero shift n = 0
rows_value bits (suc r) shift n = rows_value bits r shift n + digit bits n r shift * 2 ^ (16 * r)

-- the first rows by all their bits from `shift` on
unfoldable pub above : ℕ → ℕ → ℕ → ℕ
above zero shift n = 0
above (suc r) shift n = above r shift n + chunk n r / 2 ^ shift * 2 ^ (16 * r)

-- an entry of each row of the first point's comb is added
pub first_rows : (bits r shift n s k : ℕ) (start p : Point) (a b : Affine) → IsOnCurve a → IsOnCurve b → Represents p a → Represents start (combination s k a b)
    → Represents (with_rows bits r shift n start p) (combination (s + rows_value bits r shift n) k a b)
unfolding with_rows rows_value
first_rows bits zero shift n s k start p a b u v rp rs =
    let e : s ≡ s + 0 = omega arith in
    rw (← e) rs
first_rows bits (suc r) shift n s k start p a b u v rp rs =
    let d = digit bits n r shift in
    let i = d * 2 ^ (16 * r) in
    let ih = first_rows bits r shift n s k start p a b u v rp rs in
    let e : s + rows_value bits r shift n + i ≡ s + (rows_value bits r shift n + i) = omega arith in
    rw (← e) (first_added (s + rows_value bits r shift n) k i (with_rows bits r shift n start p) (normalized (repeated d (row_point r p))) a b u v ih (entry_represents r d p a u rp))

-- an entry of each row of the second point's comb is added
pub second_rows : (bits r shift n s k : ℕ) (start p : Point) (a b : Affine) → IsOnCurve a → IsOnCurve b → Represents p b → Represents start (combination s k a b)
    → Represents (with_rows bits r shift n start p) (combination s (k + rows_value bits r shift n) a b)
unfolding with_rows rows_value
second_rows bits zero shift n s k start p a b u v rp rs =
    let e : k ≡ k + 0 = omega arith in
    rw (← e) rs
second_rows bits (suc r) shift n s k start p a b u v rp rs =
    let d = digit bits n r shift in
    let i = d * 2 ^ (16 * r) in
    let ih = second_rows bits r shift n s k start p a b u v rp rs in
    let e : k + rows_value bits r shift n + i ≡ k + (rows_value bits r shift n + i) = omega arith in
    rw (← e) (second_added s (k + rows_value bits r shift n) i (with_rows bits r shift n start p) (normalized (repeated d (row_point r p))) a b u v ih (entry_represents r d p b v rp))

-- one more digit of each row
next_digit : (c bits shift : ℕ) → c / 2 ^ shift ≡ 2 ^ bits * (c / 2 ^ (shift + bits)) + c / 2 ^ shift % 2 ^ bits
next_digit c bits shift =
    sym (rw (pow-add 2 shift bits, ← div-div-eq-div-mul c (2 ^ shift) (2 ^ bits)) (div-add-mod (c / 2 ^ shift) (2 ^ bits)))

next_value : (v b y z w q m x : ℕ) → v ≡ b * y + z → w ≡ b * q + m → v + w * x ≡ b * (y + q * x) + (z + m * x)
next_value v b y z w q m x ev ew = rw (ev, ew) (omega arith)

pub above_next : (bits r shift n : ℕ) → above r shift n ≡ 2 ^ bits * above r (shift + bits) n + rows_value bits r shift n
unfolding above rows_value
above_next bits zero shift n = omega arith
above_next bits (suc r) shift n =
    let c = chunk n r in
    next_value (above r shift n) (2 ^ bits) (above r (shift + bits) n) (rows_value bits r shift n) (c / 2 ^ shift) (c / 2 ^ (shift + bits)) (digit bits n r shift) (2 ^ (16 * r))
    (above_next bits r shift n) (next_digit c bits shift)

-- no bit is above the 16th
above_last : (r n : ℕ) → above r 16 n ≡ 0
unfolding above
above_last zero n = refl
above_last (suc r) n =
    let z : chunk n r / 2 ^ 16 ≡ 0 = omega arith in
    rw (above_last r n, z) (omega arith)

-- all bits make the number
above_first : (r n : ℕ) → above r 0 n ≡ n % 2 ^ (16 * r)
unfolding above
above_first zero n = sym (mod-one n)
above_first (suc r) n =
    let index : 16 + 16 * r ≡ 16 * suc r = omega arith in
    let e = mod-pow-add n 16 (16 * r) in
    let same : n % 2 ^ (16 + 16 * r) ≡ n % 2 ^ (16 * suc r) = ap (λ (x : ℕ). n % 2 ^ x) index in
    let whole : chunk n r / 2 ^ 0 ≡ chunk n r = omega arith in
    rw (above_first r n, whole, ← same, e) (omega arith)

-- four doublings
four_doublings : (s k : ℕ) (p q : Point) (a b : Affine) → IsOnCurve a → IsOnCurve b → Represents p (combination s k a b) → q ≡ doubled (doubled (doubled (doubled p)))
    → Represents q (combination (16 * s) (16 * k) a b)
four_doublings s k p q a b u v r eq =
    let one = combination_doubled s k p a b u v r in
    let two = combination_doubled (s + s) (k + k) (doubled p) a b u v one in
    let s4 = (s + s) + (s + s) in
    let k4 = (k + k) + (k + k) in
    let three = combination_doubled s4 k4 (doubled (doubled p)) a b u v two in
    let four = combination_doubled (s4 + s4) (k4 + k4) (doubled (doubled (doubled p))) a b u v three in
    let es : (s4 + s4) + (s4 + s4) ≡ 16 * s = omega arith in
    let ek : (k4 + k4) + (k4 + k4) ≡ 16 * k = omega arith in
    rw (eq, ← es, ← ek) four

-- the sum after the highest digit of each row of the second comb
pub first_digits : (k : ℕ) (start after f : Point) (a b : Affine) → IsOnCurve a → IsOnCurve b → Represents f b → start ≡ identity → after ≡ with_rows 4 16 12 k start f
    → Represents after (combination 0 (above 16 12 k) a b)
first_digits k start after f a b u v rf es ea =
    let none : Represents start (combination 0 0 a b) = rw es (combination_of_zeros a b) in
    let all : 0 + rows_value 4 16 12 k ≡ above 16 12 k = omega (arith, above_next 4 16 12 k, above_last 16 k) in
    subst (λ (n : ℕ). Represents after (combination 0 n a b)) all (rw ea (second_rows 4 16 12 k 0 0 start f a b u v rf none))

-- the sum after one more digit of each row of the second comb
pub next_digits : (shift x k : ℕ) (p after f : Point) (a b : Affine) → IsOnCurve a → IsOnCurve b → Represents f b → Represents p (combination x (above 16 (shift + 4) k) a b)
    → after ≡ with_rows 4 16 shift k (doubled (doubled (doubled (doubled p)))) f → Represents after (combination (16 * x) (above 16 shift k) a b)
next_digits shift x k p after f a b u v rf r ea =
    let y = above 16 (shift + 4) k in
    let start = doubled (doubled (doubled (doubled p))) in
    let all : 16 * y + rows_value 4 16 shift k ≡ above 16 shift k = omega (arith, above_next 4 16 shift k) in
    subst (λ (n : ℕ). Represents after (combination (16 * x) n a b)) all (rw ea (second_rows 4 16 shift k (16 * x) (16 * y) start f a b u v rf (four_doublings x y p start a b u v r refl)))

-- the sum after one more digit of each row of the first comb
pub next_base_digits : (shift x y s : ℕ) (p after e : Point) (a b : Affine) → IsOnCurve a → IsOnCurve b → Represents e a → Represents p (combination x y a b)
    → x ≡ 256 * above 16 (shift + 8) s → after ≡ with_rows 8 16 shift s p e → Represents after (combination (above 16 shift s) y a b)
next_base_digits shift x y s p after e a b u v re r ex ea =
    let all : x + rows_value 8 16 shift s ≡ above 16 shift s = omega (arith, ex, above_next 8 16 shift s) in
    subst (λ (n : ℕ). Represents after (combination n y a b)) all (rw ea (first_rows 8 16 shift s x y p e a b u v re r))

-- no digit of the first comb is above the 16th bit
pub none_above : (s : ℕ) → 16 * 0 ≡ 256 * above 16 16 s
none_above s = omega (arith, above_last 16 s)

-- the sum after all digits
pub all_windows : (s k : ℕ) (p : Point) (a b : Affine) → s < 2 ^ 253 → k < 2 ^ 253 → Represents p (combination (above 16 0 s) (above 16 0 k) a b) → Represents p (combination s k a b)
all_windows s k p a b hs hk all =
    let es : above 16 0 s ≡ s = above_first 16 s ∙ mod-eq_of_lt (omega arith) in
    let ek : above 16 0 k ≡ k = above_first 16 k ∙ mod-eq_of_lt (omega arith) in
    rw (es, ek) at all
