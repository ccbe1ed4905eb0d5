-- The sum of affine points is associative.
use Rattle.std.proofs.Common.{ℕ, ◌+◌, ◌*◌, List, [], ◌∷◌, refl, sym, ◌∙◌, ap, arith}
use Rattle.std.proofs.Math.Nat.{mul_comm, mul_assoc}
use Rattle.nw_curve.specs.Curve.{curve_d}
use Rattle.nw_curve.proofs.Constants.{prime, minus_one}
use Rattle.nw_curve.proofs.Congruence.{Congruent, equal, itself, turned, chained, products}
use Rattle.nw_curve.proofs.Polynomial.{Expression, expression_value, variable, constant, ◌⊞◌, ◌⊠◌}
use Rattle.nw_curve.proofs.Equations.{no_equation, equation, Given, follows}
use Rattle.nw_curve.proofs.Divisibility.{Divides, divides_from_zero, zero_from_divides}
use Rattle.nw_curve.proofs.Primes.{not_product}
use Rattle.nw_curve.proofs.Pocklington.{one_not_zero}
use Rattle.nw_curve.proofs.PrimeField.{prime_is_prime}
use Rattle.nw_curve.proofs.Completeness.{OnCurve, cross, sum_not_zero, difference_not_zero}
use Rattle.nw_curve.proofs.AffineSums.{IsSum, cancel_right, sum_on_curve, m}
use Rattle.nw_curve.proofs.Associativity.{Fractions, point, plus, left, right, on_curve, x_associative, y_associative}

-- x is a / b
record IsFraction (x a b : ℕ) : Type 0 where
  is : Congruent prime (x * b) a
  not_zero : ¬ (Divides prime b)

-- a sum of fractions: x₃ (1 + d x₁ y₁ x₂ y₂) = x₁ y₂ + x₂ y₁ with x₁ = a / b, y₁ = c / e, x₂ = f / g and y₂ = h / k
x_of_fractions : (x₁ y₁ x₂ y₂ x₃ a b c e f g h k : ℕ) → Congruent prime (x₁ * b) a → Congruent prime (y₁ * e) c → Congruent prime (x₂ * g) f → Congruent prime (y₂ * k) h
    → Congruent prime (x₃ * (1 + cross x₁ y₁ x₂ y₂)) (x₁ * y₂ + x₂ * y₁)
    → Congruent prime (x₃ * (((b * e) * (g * k)) + curve_d * ((a * c) * (f * h)))) (((a * e) * (g * h)) + ((b * c) * (f * k)))
x_of_fractions x₁ y₁ x₂ y₂ x₃ a b c e f g h k h₁ h₂ h₃ h₄ s =
    let vs = x₁ ∷ y₁ ∷ x₂ ∷ y₂ ∷ x₃ ∷ a ∷ b ∷ c ∷ e ∷ f ∷ g ∷ h ∷ k ∷ curve_d ∷ [] in
    let v = λ (n : ℕ). variable n in
    let all = (v 6 ⊠ v 8) ⊠ (v 10 ⊠ v 12) in
    let es = equation (v 0 ⊠ v 6) (v 5) (equation (v 1 ⊠ v 8) (v 7) (equation (v 2 ⊠ v 10) (v 9) (equation (v 3 ⊠ v 12) (v 11) no_equation))) in
    chained (turned (follows prime vs es (h₁, (h₂, (h₃, (h₄, tt)))) (refl, (refl, (refl, (refl, tt))))
    (all ⊠ (v 4 ⊠ (constant 1 ⊞ (v 13 ⊠ ((v 0 ⊠ v 1) ⊠ (v 2 ⊠ v 3)))))) (v 4 ⊠ (all ⊞ (v 13 ⊠ ((v 5 ⊠ v 7) ⊠ (v 9 ⊠ v 11))))) refl))
    (chained (products itself s) (follows prime vs es (h₁, (h₂, (h₃, (h₄, tt)))) (refl, (refl, (refl, (refl, tt))))
    (all ⊠ ((v 0 ⊠ v 3) ⊞ (v 2 ⊠ v 1))) (((v 5 ⊠ v 8) ⊠ (v 10 ⊠ v 11)) ⊞ ((v 6 ⊠ v 7) ⊠ (v 9 ⊠ v 12))) refl))

y_of_fractions : (x₁ y₁ x₂ y₂ y₃ a b c e f g h k : ℕ) → Congruent prime (x₁ * b) a → Congruent prime (y₁ * e) c → Congruent prime (x₂ * g) f → Congruent prime (y₂ * k) h
    → Congruent prime (y₃ * (1 + minus_one * cross x₁ y₁ x₂ y₂)) (y₁ * y₂ + x₁ * x₂)
    → Congruent prime (y₃ * (((b * e) * (g * k)) + minus_one * (curve_d * ((a * c) * (f * h))))) (((b * c) * (g * h)) + ((a * e) * (f * k)))
y_of_fractions x₁ y₁ x₂ y₂ y₃ a b c e f g h k h₁ h₂ h₃ h₄ s =
    let vs = x₁ ∷ y₁ ∷ x₂ ∷ y₂ ∷ y₃ ∷ a ∷ b ∷ c ∷ e ∷ f ∷ g ∷ h ∷ k ∷ curve_d ∷ [] in
    let v = λ (n : ℕ). variable n in
    let all = (v 6 ⊠ v 8) ⊠ (v 10 ⊠ v 12) in
    let es = equation (v 0 ⊠ v 6) (v 5) (equation (v 1 ⊠ v 8) (v 7) (equation (v 2 ⊠ v 10) (v 9) (equation (v 3 ⊠ v 12) (v 11) no_equation))) in
    chained (turned (follows prime vs es (h₁, (h₂, (h₃, (h₄, tt)))) (refl, (refl, (refl, (refl, tt))))
    (all ⊠ (v 4 ⊠ (constant 1 ⊞ (m ⊠ (v 13 ⊠ ((v 0 ⊠ v 1) ⊠ (v 2 ⊠ v 3))))))) (v 4 ⊠ (all ⊞ (m ⊠ (v 13 ⊠ ((v 5 ⊠ v 7) ⊠ (v 9 ⊠ v 11)))))) refl))
    (chained (products itself s) (follows prime vs es (h₁, (h₂, (h₃, (h₄, tt)))) (refl, (refl, (refl, (refl, tt))))
    (all ⊠ ((v 1 ⊠ v 3) ⊞ (v 0 ⊠ v 2))) (((v 6 ⊠ v 7) ⊠ (v 10 ⊠ v 11)) ⊞ ((v 5 ⊠ v 8) ⊠ (v 9 ⊠ v 12))) refl))

-- the denominators of such sums are the products of the given ones and 1 + d x₁ y₁ x₂ y₂, or 1 - d x₁ y₁ x₂ y₂
denominators : (x₁ y₁ x₂ y₂ a b c e f g h k : ℕ) → Congruent prime (x₁ * b) a → Congruent prime (y₁ * e) c → Congruent prime (x₂ * g) f → Congruent prime (y₂ * k) h
    → Congruent prime (((b * e) * (g * k)) * (1 + cross x₁ y₁ x₂ y₂)) (((b * e) * (g * k)) + curve_d * ((a * c) * (f * h)))
    × Congruent prime (((b * e) * (g * k)) * (1 + minus_one * cross x₁ y₁ x₂ y₂)) (((b * e) * (g * k)) + minus_one * (curve_d * ((a * c) * (f * h))))
denominators x₁ y₁ x₂ y₂ a b c e f g h k h₁ h₂ h₃ h₄ =
    let vs = x₁ ∷ y₁ ∷ x₂ ∷ y₂ ∷ 0 ∷ a ∷ b ∷ c ∷ e ∷ f ∷ g ∷ h ∷ k ∷ curve_d ∷ [] in
    let v = λ (n : ℕ). variable n in
    let all = (v 6 ⊠ v 8) ⊠ (v 10 ⊠ v 12) in
    let es = equation (v 0 ⊠ v 6) (v 5) (equation (v 1 ⊠ v 8) (v 7) (equation (v 2 ⊠ v 10) (v 9) (equation (v 3 ⊠ v 12) (v 11) no_equation))) in (
      follows prime vs es (h₁, (h₂, (h₃, (h₄, tt)))) (refl, (refl, (refl, (refl, tt))))
          (all ⊠ (constant 1 ⊞ (v 13 ⊠ ((v 0 ⊠ v 1) ⊠ (v 2 ⊠ v 3))))) (all ⊞ (v 13 ⊠ ((v 5 ⊠ v 7) ⊠ (v 9 ⊠ v 11)))) refl,
      follows prime vs es (h₁, (h₂, (h₃, (h₄, tt)))) (refl, (refl, (refl, (refl, tt))))
          (all ⊠ (constant 1 ⊞ (m ⊠ (v 13 ⊠ ((v 0 ⊠ v 1) ⊠ (v 2 ⊠ v 3)))))) (all ⊞ (m ⊠ (v 13 ⊠ ((v 5 ⊠ v 7) ⊠ (v 9 ⊠ v 11))))) refl,
    )

pub not_zero_as : {a b : ℕ} → Congruent prime a b → ¬ (Divides prime a) → ¬ (Divides prime b)
not_zero_as h n k = n (divides_from_zero (chained h (zero_from_divides k)))

-- the values of the variables
abbrev values : ℕ → ℕ → ℕ → ℕ → ℕ → ℕ → List ℕ
values x₁ y₁ x₂ y₂ x₃ y₃ = x₁ ∷ y₁ ∷ x₂ ∷ y₂ ∷ x₃ ∷ y₃ ∷ curve_d ∷ []

-- (x, y) is the point with these fractions
record IsPoint (vs : List ℕ) (f : Fractions) (x y : ℕ) : Type 0 where
  first : IsFraction x (expression_value vs f.a) (expression_value vs f.b)
  second : IsFraction y (expression_value vs f.c) (expression_value vs f.e)

module _ (u₁ v₁ u₂ v₂ u₃ v₃ : ℕ) where
  sum_of_fractions : (p q : Fractions) (x₁ y₁ x₂ y₂ x₃ y₃ : ℕ) → IsPoint (values u₁ v₁ u₂ v₂ u₃ v₃) p x₁ y₁ → IsPoint (values u₁ v₁ u₂ v₂ u₃ v₃) q x₂ y₂
      → OnCurve x₁ y₁ → OnCurve x₂ y₂ → IsSum x₁ y₁ x₂ y₂ x₃ y₃ → IsPoint (values u₁ v₁ u₂ v₂ u₃ v₃) (plus p q) x₃ y₃
  sum_of_fractions p q x₁ y₁ x₂ y₂ x₃ y₃ i j on₁ on₂ s =
      let w = λ (e : Expression). expression_value (values u₁ v₁ u₂ v₂ u₃ v₃) e in
      let n = not_product prime_is_prime (not_product prime_is_prime i.first.not_zero i.second.not_zero) (not_product prime_is_prime j.first.not_zero j.second.not_zero) in
      let ds = denominators x₁ y₁ x₂ y₂ (w p.a) (w p.b) (w p.c) (w p.e) (w q.a) (w q.b) (w q.c) (w q.e) i.first.is i.second.is j.first.is j.second.is in
      record {
        first = record {
          is = x_of_fractions x₁ y₁ x₂ y₂ x₃ (w p.a) (w p.b) (w p.c) (w p.e) (w q.a) (w q.b) (w q.c) (w q.e) i.first.is i.second.is j.first.is j.second.is s.x;
          not_zero = not_zero_as ds.0 (not_product prime_is_prime n (sum_not_zero x₁ y₁ x₂ y₂ on₁ on₂));
        };
        second = record {
          is = y_of_fractions x₁ y₁ x₂ y₂ y₃ (w p.a) (w p.b) (w p.c) (w p.e) (w q.a) (w q.b) (w q.c) (w q.e) i.first.is i.second.is j.first.is j.second.is s.y;
          not_zero = not_zero_as ds.1 (not_product prime_is_prime n (difference_not_zero x₁ y₁ x₂ y₂ on₁ on₂));
        };
      }

-- fractions with one value
same_fraction : (x y a b c e : ℕ) → IsFraction x a b → IsFraction y c e → Congruent prime (a * e) (c * b) → Congruent prime x y
same_fraction x y a b c e h k same =
    cancel_right (not_product prime_is_prime h.not_zero k.not_zero)
    (chained (equal (sym (mul_assoc x b e))) (chained (products h.is itself) (chained same (chained (products (turned k.is) itself) (equal (mul_assoc y e b ∙ ap (λ (z : ℕ). y * z) (mul_comm e b)))))))

one_fraction : (x : ℕ) → IsFraction x x 1
one_fraction x = record { is = equal (omega arith); not_zero = λ h. one_not_zero prime_is_prime (zero_from_divides h) }

-- (P₁ + P₂) + P₃ = P₁ + (P₂ + P₃)
pub sums_associate : (x₁ y₁ x₂ y₂ x₃ y₃ x₁₂ y₁₂ x₂₃ y₂₃ x y s t : ℕ) → OnCurve x₁ y₁ → OnCurve x₂ y₂ → OnCurve x₃ y₃
    → IsSum x₁ y₁ x₂ y₂ x₁₂ y₁₂ → IsSum x₁₂ y₁₂ x₃ y₃ x y → IsSum x₂ y₂ x₃ y₃ x₂₃ y₂₃ → IsSum x₁ y₁ x₂₃ y₂₃ s t
    → Congruent prime x s × Congruent prime y t
sums_associate x₁ y₁ x₂ y₂ x₃ y₃ x₁₂ y₁₂ x₂₃ y₂₃ x y s t on₁ on₂ on₃ i j k l =
    let vs = values x₁ y₁ x₂ y₂ x₃ y₃ in
    let w = λ (e : Expression). expression_value vs e in
    let p₁ : IsPoint vs (point 0 1) x₁ y₁ = record { first = one_fraction x₁; second = one_fraction y₁ } in
    let p₂ : IsPoint vs (point 2 3) x₂ y₂ = record { first = one_fraction x₂; second = one_fraction y₂ } in
    let p₃ : IsPoint vs (point 4 5) x₃ y₃ = record { first = one_fraction x₃; second = one_fraction y₃ } in
    let p₁₂ = sum_of_fractions x₁ y₁ x₂ y₂ x₃ y₃ (point 0 1) (point 2 3) x₁ y₁ x₂ y₂ x₁₂ y₁₂ p₁ p₂ on₁ on₂ i in
    let p₂₃ = sum_of_fractions x₁ y₁ x₂ y₂ x₃ y₃ (point 2 3) (point 4 5) x₂ y₂ x₃ y₃ x₂₃ y₂₃ p₂ p₃ on₂ on₃ k in
    let p = sum_of_fractions x₁ y₁ x₂ y₂ x₃ y₃ (plus (point 0 1) (point 2 3)) (point 4 5) x₁₂ y₁₂ x₃ y₃ x y p₁₂ p₃ (sum_on_curve on₁ on₂ i) on₃ j in
    let q = sum_of_fractions x₁ y₁ x₂ y₂ x₃ y₃ (point 0 1) (plus (point 2 3) (point 4 5)) x₁ y₁ x₂₃ y₂₃ s t p₁ p₂₃ on₁ (sum_on_curve on₂ on₃ k) l in
    let g : Given prime vs on_curve = (on₁.equation, (on₂.equation, (on₃.equation, tt))) in (
      same_fraction x s (w left.a) (w left.b) (w right.a) (w right.b) p.first q.first (x_associative x₁ y₁ x₂ y₂ x₃ y₃ curve_d g),
      same_fraction y t (w left.c) (w left.e) (w right.c) (w right.e) p.second q.second (y_associative x₁ y₁ x₂ y₂ x₃ y₃ curve_d g),
    )
