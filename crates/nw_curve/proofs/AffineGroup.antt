-- The points on the curve with their sum are a commutative group: the sum as a function, its laws, and multiples.
use Rattle.std.proofs.Common.{◌≡◌, ℕ, zero, suc, ◌+◌, ◌-◌, ◌*◌, ◌%◌, ◌^◌, ◌<◌, [], ◌∷◌, refl, sym, ◌∙◌, ap, arith, lit<}
use Rattle.std.proofs.Math.Nat.{mul_assoc, pow-suc, mod-lt, mod-eq_of_lt}
use Rattle.nw_curve.specs.Curve.{curve_d}
use Rattle.nw_curve.proofs.Constants.{prime, minus_one}
use Rattle.nw_curve.proofs.Congruence.{Congruent, equal, itself, chained, products, remainder}
use Rattle.nw_curve.proofs.Polynomial.{variable, constant, ◌⊞◌, ◌⊠◌}
use Rattle.nw_curve.proofs.Equations.{ring}
use Rattle.nw_curve.proofs.Divisibility.{Divides}
use Rattle.nw_curve.proofs.Primes.{IsPrime}
use Rattle.nw_curve.proofs.Fermat.{fermat}
use Rattle.nw_curve.proofs.PrimeField.{prime_is_prime}
use Rattle.nw_curve.proofs.Completeness.{OnCurve, cross, sum_not_zero, difference_not_zero}
use Rattle.nw_curve.proofs.AffineSums.{IsSum, m, sum_on_curve, sum_unique_x, sum_unique_y, sum_turned}
use Rattle.nw_curve.proofs.Fractions.{sums_associate}

-- the inverse modulo the prime
abbrev pub inverse : ℕ → ℕ
inverse a = a ^ (prime - 2) % prime

inverse_modulo : (k : ℕ) → IsPrime (suc (suc k)) → (a : ℕ) → ¬ (Divides (suc (suc k)) a) → Congruent (suc (suc k)) (a ^ k % suc (suc k) * a) 1
inverse_modulo k prime a h = chained (products remainder itself) (chained (equal (sym (pow-suc a k))) (fermat (suc k) prime a h))

pub inverse_is : (a : ℕ) → ¬ (Divides prime a) → Congruent prime (inverse a * a) 1
inverse_is = inverse_modulo (prime - 2) prime_is_prime

-- a point by its two coordinates
pub record Affine : Type 0 where
  pub x : ℕ
  pub y : ℕ

-- both coordinates are below the prime, and the point is on the curve
pub record IsOnCurve (a : Affine) : Type 0 where
  pub x_below : a.x < prime
  pub y_below : a.y < prime
  pub on_curve : OnCurve a.x a.y

-- the sum of two points
unfoldable pub affine_sum : Affine → Affine → Affine
affine_sum a b = record {
  x = (a.x * b.y + b.x * a.y) * inverse (1 + cross a.x a.y b.x b.y) % prime;
  y = (a.y * b.y + a.x * b.x) * inverse (1 + minus_one * cross a.x a.y b.x b.y) % prime;
}

quotient : (n d : ℕ) → ¬ (Divides prime d) → Congruent prime (n * inverse d % prime * d) n
quotient n d h = chained (products remainder itself) (chained (equal (mul_assoc n (inverse d) d)) (chained (products itself (inverse_is d h)) (equal (omega arith))))

abbrev pub Sums : Affine → Affine → Affine → Type 0
Sums a b c = IsSum a.x a.y b.x b.y c.x c.y

pub sum_is : (a b : Affine) → IsOnCurve a → IsOnCurve b → Sums a b (affine_sum a b)
unfolding affine_sum
sum_is a b on₁ on₂ = record {
  x = quotient (a.x * b.y + b.x * a.y) (1 + cross a.x a.y b.x b.y) (sum_not_zero a.x a.y b.x b.y on₁.on_curve on₂.on_curve);
  y = quotient (a.y * b.y + a.x * b.x) (1 + minus_one * cross a.x a.y b.x b.y) (difference_not_zero a.x a.y b.x b.y on₁.on_curve on₂.on_curve);
}

pub below_prime : (n : ℕ) → n % prime < prime
below_prime n = mod-lt n (lit< tt)

pub sum_valid : (a b : Affine) → IsOnCurve a → IsOnCurve b → IsOnCurve (affine_sum a b)
unfolding affine_sum
sum_valid a b on₁ on₂ = record {
  x_below = below_prime ((a.x * b.y + b.x * a.y) * inverse (1 + cross a.x a.y b.x b.y));
  y_below = below_prime ((a.y * b.y + a.x * b.x) * inverse (1 + minus_one * cross a.x a.y b.x b.y));
  on_curve = sum_on_curve on₁.on_curve on₂.on_curve (sum_is a b on₁ on₂);
}

pub same_number : (a b : ℕ) → a < prime → b < prime → Congruent prime a b → a ≡ b
same_number a b h k c = sym (mod-eq_of_lt h) ∙ (c.remainders ∙ mod-eq_of_lt k)

same_coordinates : (x y s t : ℕ) → x ≡ s → y ≡ t → (let p : Affine = record { x = x; y = y } in let q : Affine = record { x = s; y = t } in p ≡ q)
same_coordinates x y s t h k = rw (h, k) refl

pub same_points : (a b : Affine) → IsOnCurve a → IsOnCurve b → Congruent prime a.x b.x → Congruent prime a.y b.y → a ≡ b
same_points a b u v h k = same_coordinates a.x a.y b.x b.y (same_number a.x b.x u.x_below v.x_below h) (same_number a.y b.y u.y_below v.y_below k)

-- what is a sum is the sum
pub sum_from : (a b c : Affine) → IsOnCurve a → IsOnCurve b → IsOnCurve c → Sums a b c → affine_sum a b ≡ c
sum_from a b c u v w s =
    let t = sum_is a b u v in
    same_points (affine_sum a b) c (sum_valid a b u v) w (sum_unique_x u.on_curve v.on_curve t s) (sum_unique_y u.on_curve v.on_curve t s)

pub sum_associative : (a b c : Affine) → IsOnCurve a → IsOnCurve b → IsOnCurve c → affine_sum (affine_sum a b) c ≡ affine_sum a (affine_sum b c)
sum_associative a b c u v w =
    let ab = affine_sum a b in
    let bc = affine_sum b c in
    let l = affine_sum ab c in
    let r = affine_sum a bc in
    let x = sum_valid a b u v in
    let y = sum_valid b c v w in
    let h = sums_associate a.x a.y b.x b.y c.x c.y ab.x ab.y bc.x bc.y l.x l.y r.x r.y u.on_curve v.on_curve w.on_curve (sum_is a b u v) (sum_is ab c x w) (sum_is b c v w) (sum_is a bc u y) in
    same_points l r (sum_valid ab c x w) (sum_valid a bc u y) h.0 h.1

pub sum_commutative : (a b : Affine) → IsOnCurve a → IsOnCurve b → affine_sum a b ≡ affine_sum b a
sum_commutative a b u v = sum_from a b (affine_sum b a) u v (sum_valid b a v u) (sum_turned (sum_is b a v u))

-- the neutral element
abbrev pub neutral : Affine
neutral = record { x = 0; y = 1 }

pub neutral_valid : IsOnCurve neutral
neutral_valid = record {
  x_below = lit< tt;
  y_below = lit< tt;
  on_curve = record {
    equation = ring prime (curve_d ∷ []) (variable 0 ⊠ ((constant 0 ⊠ constant 0) ⊠ (constant 1 ⊠ constant 1))) (((m ⊠ (constant 0 ⊠ constant 0)) ⊞ (constant 1 ⊠ constant 1)) ⊞ m) refl;
  };
}

pub neutral_sum : (a : Affine) → IsOnCurve a → affine_sum neutral a ≡ a
neutral_sum a u = sum_from neutral a a neutral_valid u u (record {
  x = ring prime (a.x ∷ a.y ∷ curve_d ∷ []) (variable 0 ⊠ (constant 1 ⊞ (variable 2 ⊠ ((constant 0 ⊠ constant 1) ⊠ (variable 0 ⊠ variable 1))))) ((constant 0 ⊠ variable 1) ⊞ (variable 0 ⊠ constant 1)) refl;
  y = ring prime (a.x ∷ a.y ∷ curve_d ∷ []) (variable 1 ⊠ (constant 1 ⊞ (m ⊠ (variable 2 ⊠ ((constant 0 ⊠ constant 1) ⊠ (variable 0 ⊠ variable 1)))))) ((constant 1 ⊠ variable 1) ⊞ (constant 0 ⊠ variable 0)) refl;
})

-- n times a point
unfoldable pub times : ℕ → Affine → Affine
times zero a = neutral
times (suc n) a = affine_sum (times n a) a

pub times_valid : (n : ℕ) (a : Affine) → IsOnCurve a → IsOnCurve (times n a)
unfolding times
times_valid zero a u = neutral_valid
times_valid (suc n) a u = sum_valid (times n a) a (times_valid n a u) u

-- (k + n) P = k P + n P
pub times_sum : (k n : ℕ) (a : Affine) → IsOnCurve a → times (k + n) a ≡ affine_sum (times k a) (times n a)
unfolding times
times_sum zero n a u = ap (λ (j : ℕ). times j a) (omega arith) ∙ sym (neutral_sum (times n a) (times_valid n a u))
times_sum (suc k) n a u =
    let x = times k a in
    let y = times n a in
    let vx = times_valid k a u in
    let vy = times_valid n a u in
    let e : suc k + n ≡ suc (k + n) = omega arith in
    ap (λ (j : ℕ). times j a) e ∙ (ap (λ (b : Affine). affine_sum b a) (times_sum k n a u) ∙ (sum_associative x y a vx vy u
    ∙ (ap (λ (b : Affine). affine_sum x b) (sum_commutative y a vy u) ∙ sym (sum_associative x a y vx u vy))))
