-- Sums of affine points on the curve, as a relation: they are on the curve, and the sum of two points is one point.
use Rattle.std.proofs.Common.{◌≡◌, ℕ, ◌+◌, ◌*◌, [], ◌∷◌, refl, ap, arith}
use Rattle.std.proofs.Math.Nat.{mul_comm}
use Rattle.nw_curve.specs.Curve.{curve_d}
use Rattle.nw_curve.proofs.Constants.{prime, minus_one}
use Rattle.nw_curve.proofs.Congruence.{Congruent, equal, itself, turned, chained, sums, products}
use Rattle.nw_curve.proofs.Polynomial.{Expression, expression_value, variable, constant, ◌⊞◌, ◌⊠◌}
use Rattle.nw_curve.proofs.Equations.{no_equation, equation, ring, follows}
use Rattle.nw_curve.proofs.Divisibility.{Divides}
use Rattle.nw_curve.proofs.Primes.{cancel, not_product}
use Rattle.nw_curve.proofs.PrimeField.{prime_is_prime}
use Rattle.nw_curve.proofs.Completeness.{OnCurve, cross, sum_not_zero, difference_not_zero}

-- (x₃, y₃) is the sum of (x₁, y₁) and (x₂, y₂)
pub record IsSum (x₁ y₁ x₂ y₂ x₃ y₃ : ℕ) : Type 0 where
  pub x : Congruent prime (x₃ * (1 + cross x₁ y₁ x₂ y₂)) (x₁ * y₂ + x₂ * y₁)
  pub y : Congruent prime (y₃ * (1 + minus_one * cross x₁ y₁ x₂ y₂)) (y₁ * y₂ + x₁ * x₂)

-- a factor that is not 0 can be cancelled
pub cancel_right : {a x y : ℕ} → ¬ (Divides prime a) → Congruent prime (x * a) (y * a) → Congruent prime x y
cancel_right {a} {x} {y} n h = cancel prime_is_prime a x y n (chained (equal (mul_comm a x)) (chained h (equal (mul_comm y a))))

abbrev pub m : Expression
m = constant minus_one

abbrev square : Expression → Expression
square f = f ⊠ f

-- both sides of the curve's equation
abbrev curve_left : Expression → Expression → Expression → Expression
curve_left d x y = d ⊠ (square x ⊠ square y)

abbrev curve_right : Expression → Expression → Expression
curve_right x y = ((m ⊠ square x) ⊞ square y) ⊞ m

abbrev cross_of : Expression → Expression → Expression → Expression → Expression → Expression
cross_of d x₁ y₁ x₂ y₂ = d ⊠ ((x₁ ⊠ y₁) ⊠ (x₂ ⊠ y₂))

-- the numerators and denominators of the sum
abbrev x_above : Expression
x_above = (variable 0 ⊠ variable 3) ⊞ (variable 2 ⊠ variable 1)

abbrev x_below : Expression
x_below = constant 1 ⊞ cross_of (variable 4) (variable 0) (variable 1) (variable 2) (variable 3)

abbrev y_above : Expression
y_above = (variable 1 ⊠ variable 3) ⊞ (variable 0 ⊠ variable 2)

abbrev y_below : Expression
y_below = constant 1 ⊞ (m ⊠ cross_of (variable 4) (variable 0) (variable 1) (variable 2) (variable 3))

-- x₁² y₁² y₂², after the curve's equation at both points: with it the two equations reduce each expression to one form
abbrev exchanged : Expression → Expression → Expression → Expression → Expression
exchanged x₁ y₁ x₂ y₂ = (((square x₁ ⊠ square y₁) ⊠ square x₂) ⊞ (square x₁ ⊠ square y₁)) ⊞ (curve_right x₁ y₁ ⊠ (square x₂ ⊠ square y₂))

exchange : (x₁ y₁ x₂ y₂ : ℕ) → OnCurve x₁ y₁ → OnCurve x₂ y₂ → Congruent prime (((x₁ * x₁) * (y₁ * y₁)) * (y₂ * y₂))
    ((((x₁ * x₁) * (y₁ * y₁)) * (x₂ * x₂) + (x₁ * x₁) * (y₁ * y₁)) + (minus_one * (x₁ * x₁) + y₁ * y₁ + minus_one) * ((x₂ * x₂) * (y₂ * y₂)))
exchange x₁ y₁ x₂ y₂ on₁ on₂ =
    let vs = x₁ ∷ y₁ ∷ x₂ ∷ y₂ ∷ curve_d ∷ [] in
    let x = variable 0 in
    let y = variable 1 in
    let s = variable 2 in
    let t = variable 3 in
    chained (ring prime vs ((square x ⊠ square y) ⊠ square t) ((((square x ⊠ square y) ⊠ square s) ⊞ (square x ⊠ square y)) ⊞ ((square x ⊠ square y) ⊠ curve_right s t)) refl)
    (sums itself (chained (products itself (turned on₂.equation)) (chained (ring prime vs ((square x ⊠ square y) ⊠ curve_left (variable 4) s t) (curve_left (variable 4) x y ⊠ (square s ⊠ square t)) refl)
    (products on₁.equation itself))))

-- the curve's equation of the sum, times the denominators
on_curve_times : (x₁ y₁ x₂ y₂ : ℕ) → OnCurve x₁ y₁ → OnCurve x₂ y₂ → (let v = expression_value (x₁ ∷ y₁ ∷ x₂ ∷ y₂ ∷ curve_d ∷ []) in
    Congruent prime (v (variable 4 ⊠ (square x_above ⊠ square y_above))) (v (((m ⊠ (square x_above ⊠ square y_below)) ⊞ (square y_above ⊠ square x_below)) ⊞ (m ⊠ (square x_below ⊠ square y_below)))))
on_curve_times x₁ y₁ x₂ y₂ on₁ on₂ =
    follows prime (x₁ ∷ y₁ ∷ x₂ ∷ y₂ ∷ curve_d ∷ [])
    (equation (curve_left (variable 4) (variable 0) (variable 1)) (curve_right (variable 0) (variable 1)) (equation (curve_left (variable 4) (variable 2) (variable 3)) (curve_right (variable 2) (variable 3))
    (equation ((square (variable 0) ⊠ square (variable 1)) ⊠ square (variable 3)) (exchanged (variable 0) (variable 1) (variable 2) (variable 3)) no_equation)))
    (on₁.equation, (on₂.equation, (exchange x₁ y₁ x₂ y₂ on₁ on₂, tt))) (refl, (refl, (refl, tt))) (variable 4 ⊠ (square x_above ⊠ square y_above)) (((m ⊠ (square x_above ⊠ square y_below)) ⊞ (square y_above ⊠ square x_below)) ⊞ (m ⊠ (square x_below ⊠ square y_below))) refl

-- the curve's equation, where fractions satisfy it
curve_of_fractions : (x y b e a c d : ℕ) → Congruent prime (x * b) a → Congruent prime (y * e) c
    → Congruent prime (d * ((a * a) * (c * c))) (minus_one * ((a * a) * (e * e)) + (c * c) * (b * b) + minus_one * ((b * b) * (e * e)))
    → Congruent prime (((b * b) * (e * e)) * (d * ((x * x) * (y * y)))) (((b * b) * (e * e)) * (minus_one * (x * x) + y * y + minus_one))
curve_of_fractions x y b e a c d hx hy h =
    follows prime (x ∷ y ∷ b ∷ e ∷ a ∷ c ∷ d ∷ [])
    (equation (variable 0 ⊠ variable 2) (variable 4) (equation (variable 1 ⊠ variable 3) (variable 5)
    (equation (curve_left (variable 6) (variable 4) (variable 5)) (((m ⊠ (square (variable 4) ⊠ square (variable 3))) ⊞ (square (variable 5) ⊠ square (variable 2))) ⊞ (m ⊠ (square (variable 2) ⊠ square (variable 3)))) no_equation)))
    (hx, (hy, (h, tt))) (refl, (refl, (refl, tt)))
    ((square (variable 2) ⊠ square (variable 3)) ⊠ curve_left (variable 6) (variable 0) (variable 1)) ((square (variable 2) ⊠ square (variable 3)) ⊠ curve_right (variable 0) (variable 1)) refl

-- a sum is on the curve
pub sum_on_curve : {x₁ y₁ x₂ y₂ x₃ y₃ : ℕ} → OnCurve x₁ y₁ → OnCurve x₂ y₂ → IsSum x₁ y₁ x₂ y₂ x₃ y₃ → OnCurve x₃ y₃
sum_on_curve {x₁} {y₁} {x₂} {y₂} {x₃} {y₃} on₁ on₂ s =
    let b = 1 + cross x₁ y₁ x₂ y₂ in
    let e = 1 + minus_one * cross x₁ y₁ x₂ y₂ in
    let nb = sum_not_zero x₁ y₁ x₂ y₂ on₁ on₂ in
    let ne = difference_not_zero x₁ y₁ x₂ y₂ on₁ on₂ in
    let n = not_product prime_is_prime (not_product prime_is_prime nb nb) (not_product prime_is_prime ne ne) in
    record {
      equation = cancel prime_is_prime ((b * b) * (e * e)) (curve_d * ((x₃ * x₃) * (y₃ * y₃))) (minus_one * (x₃ * x₃) + y₃ * y₃ + minus_one) n
          (curve_of_fractions x₃ y₃ b e (x₁ * y₂ + x₂ * y₁) (y₁ * y₂ + x₁ * x₂) curve_d s.x s.y (on_curve_times x₁ y₁ x₂ y₂ on₁ on₂));
    }

-- a sum is one point
pub sum_unique_x : {x₁ y₁ x₂ y₂ x₃ y₃ x₄ y₄ : ℕ} → OnCurve x₁ y₁ → OnCurve x₂ y₂ → IsSum x₁ y₁ x₂ y₂ x₃ y₃ → IsSum x₁ y₁ x₂ y₂ x₄ y₄ → Congruent prime x₃ x₄
sum_unique_x {x₁} {y₁} {x₂} {y₂} on₁ on₂ s t = cancel_right (sum_not_zero x₁ y₁ x₂ y₂ on₁ on₂) (chained s.x (turned t.x))

pub sum_unique_y : {x₁ y₁ x₂ y₂ x₃ y₃ x₄ y₄ : ℕ} → OnCurve x₁ y₁ → OnCurve x₂ y₂ → IsSum x₁ y₁ x₂ y₂ x₃ y₃ → IsSum x₁ y₁ x₂ y₂ x₄ y₄ → Congruent prime y₃ y₄
sum_unique_y {x₁} {y₁} {x₂} {y₂} on₁ on₂ s t = cancel_right (difference_not_zero x₁ y₁ x₂ y₂ on₁ on₂) (chained s.y (turned t.y))

-- the order of the summands does not matter
pub sum_turned : {x₁ y₁ x₂ y₂ x₃ y₃ : ℕ} → IsSum x₁ y₁ x₂ y₂ x₃ y₃ → IsSum x₂ y₂ x₁ y₁ x₃ y₃
sum_turned {x₁} {y₁} {x₂} {y₂} {x₃} {y₃} s =
    let same : cross x₂ y₂ x₁ y₁ ≡ cross x₁ y₁ x₂ y₂ = ap (λ (k : ℕ). curve_d * k) (mul_comm (x₂ * y₂) (x₁ * y₁)) in
    record {
      x = chained (equal (ap (λ (k : ℕ). x₃ * (1 + k)) same)) (chained s.x (equal (omega arith)));
      y = chained (equal (ap (λ (k : ℕ). y₃ * (1 + minus_one * k)) same)) (chained s.y (equal (omega arith)));
    }
