-- The addition of points of the curve -x^2 + y^2 = 1 + d x^2 y^2 is associative modulo the prime: the numerators, multiplied crosswise, are congruent.
use Rattle.std.proofs.Common.{ℕ, ◌-◌, [], ◌∷◌, refl}
use Rattle.nw_curve.proofs.Constants.{prime}
use Rattle.nw_curve.proofs.Congruence.{Congruent}
use Rattle.nw_curve.proofs.Polynomial.{Expression, variable, constant, ◌⊞◌, ◌⊠◌, expression_value}
use Rattle.nw_curve.proofs.Equations.{Equations, no_equation, equation, Given, follows}

-- the fractions x = a / b and y = c / e
pub record Fractions : Type 0 where
  pub a : Expression
  pub b : Expression
  pub c : Expression
  pub e : Expression

abbrev pub minus_one : Expression
minus_one = constant (prime - 1)

abbrev pub d : Expression
d = variable 6

-- the point of variables i and j
abbrev pub point : ℕ → ℕ → Fractions
point i j = record { a = variable i; b = constant 1; c = variable j; e = constant 1 }

-- the sum: x = (x₁ y₂ + x₂ y₁) / (1 + d x₁ x₂ y₁ y₂) and y = (y₁ y₂ + x₁ x₂) / (1 - d x₁ x₂ y₁ y₂)
abbrev pub plus : Fractions → Fractions → Fractions
plus p q =
    let common = (p.b ⊠ p.e) ⊠ (q.b ⊠ q.e) in
    let product = d ⊠ ((p.a ⊠ p.c) ⊠ (q.a ⊠ q.c)) in
    record {
      a = ((p.a ⊠ p.e) ⊠ (q.b ⊠ q.c)) ⊞ ((p.b ⊠ p.c) ⊠ (q.a ⊠ q.e));
      b = common ⊞ product;
      c = ((p.b ⊠ p.c) ⊠ (q.b ⊠ q.c)) ⊞ ((p.a ⊠ p.e) ⊠ (q.a ⊠ q.e));
      e = common ⊞ (minus_one ⊠ product);
    }

-- (P + Q) + R and P + (Q + R)
abbrev pub left : Fractions
left = plus (plus (point 0 1) (point 2 3)) (point 4 5)

abbrev pub right : Fractions
right = plus (point 0 1) (plus (point 2 3) (point 4 5))

-- the curve's equation at the point of variables i and j: d x² y² = -x² + y² - 1
abbrev curve_left : ℕ → ℕ → Expression
curve_left i j = d ⊠ ((variable i ⊠ variable i) ⊠ (variable j ⊠ variable j))

abbrev curve_right : ℕ → ℕ → Expression
curve_right i j = ((minus_one ⊠ (variable i ⊠ variable i)) ⊞ (variable j ⊠ variable j)) ⊞ minus_one

abbrev pub on_curve : Equations
on_curve = equation (curve_left 0 1) (curve_right 0 1) (equation (curve_left 2 3) (curve_right 2 3) (equation (curve_left 4 5) (curve_right 4 5) no_equation))

-- the numerators, multiplied crosswise
pub x_associative : (x₁ y₁ x₂ y₂ x₃ y₃ k : ℕ) → Given prime (x₁ ∷ y₁ ∷ x₂ ∷ y₂ ∷ x₃ ∷ y₃ ∷ k ∷ []) on_curve
    → Congruent prime (expression_value (x₁ ∷ y₁ ∷ x₂ ∷ y₂ ∷ x₃ ∷ y₃ ∷ k ∷ []) (left.a ⊠ right.b)) (expression_value (x₁ ∷ y₁ ∷ x₂ ∷ y₂ ∷ x₃ ∷ y₃ ∷ k ∷ []) (right.a ⊠ left.b))
x_associative x₁ y₁ x₂ y₂ x₃ y₃ k h = follows prime (x₁ ∷ y₁ ∷ x₂ ∷ y₂ ∷ x₃ ∷ y₃ ∷ k ∷ []) on_curve h (refl, (refl, (refl, tt))) (left.a ⊠ right.b) (right.a ⊠ left.b) refl

pub y_associative : (x₁ y₁ x₂ y₂ x₃ y₃ k : ℕ) → Given prime (x₁ ∷ y₁ ∷ x₂ ∷ y₂ ∷ x₃ ∷ y₃ ∷ k ∷ []) on_curve
    → Congruent prime (expression_value (x₁ ∷ y₁ ∷ x₂ ∷ y₂ ∷ x₃ ∷ y₃ ∷ k ∷ []) (left.c ⊠ right.e)) (expression_value (x₁ ∷ y₁ ∷ x₂ ∷ y₂ ∷ x₃ ∷ y₃ ∷ k ∷ []) (right.c ⊠ left.e))
y_associative x₁ y₁ x₂ y₂ x₃ y₃ k h = follows prime (x₁ ∷ y₁ ∷ x₂ ∷ y₂ ∷ x₃ ∷ y₃ ∷ k ∷ []) on_curve h (refl, (refl, (refl, tt))) (left.c ⊠ right.e) (right.c ⊠ left.e) refl
