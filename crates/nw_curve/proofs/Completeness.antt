-- The curve's addition is complete: for two points on the curve neither 1 + d x₁ y₁ x₂ y₂ nor 1 - d x₁ y₁ x₂ y₂ is 0 modulo the prime, since d is no square.
use Rattle.std.proofs.Common.{ℕ, ◌+◌, ◌*◌, List, [], ◌∷◌, refl, arith, lit<}
use Rattle.nw_curve.specs.Curve.{curve_d}
use Rattle.nw_curve.specs.Coding.{root_of_minus_one as root}
use Rattle.nw_curve.proofs.Constants.{prime, minus_one, half}
use Rattle.nw_curve.proofs.Congruence.{Congruent, equal, itself, turned, chained, sums, products}
use Rattle.nw_curve.proofs.Polynomial.{Expression, variable, constant, ◌⊞◌, ◌⊠◌}
use Rattle.nw_curve.proofs.Equations.{Equations, no_equation, equation, ring, follows}
use Rattle.nw_curve.proofs.Divisibility.{Divides, zero_from_divides}
use Rattle.nw_curve.proofs.Primes.{divides_or_not, not_product}
use Rattle.nw_curve.proofs.Pocklington.{one_not_zero}
use Rattle.nw_curve.proofs.PrimeField.{prime_is_prime}
use Rattle.nw_curve.proofs.Squares.{not_square_times}

-- (x, y) is on the curve: d x² y² = -x² + y² - 1
pub record OnCurve (x y : ℕ) : Type 0 where
  pub equation : Congruent prime (curve_d * ((x * x) * (y * y))) (minus_one * (x * x) + y * y + minus_one)

-- d x₁ y₁ x₂ y₂
abbrev pub cross : ℕ → ℕ → ℕ → ℕ → ℕ
cross x₁ y₁ x₂ y₂ = curve_d * ((x₁ * y₁) * (x₂ * y₂))

root_squared : Congruent prime (root * root) minus_one
unfolding root
root_squared = record { remainders = refl }

d_not_square : (u v : ℕ) → ¬ (Divides prime v) → ¬ (Congruent prime (u * u) (curve_d * (v * v)))
unfolding curve_d
d_not_square = not_square_times 28948022309329048855892746252171976963317496166410141009864396001978282409974 curve_d 255 prime_is_prime (lit< tt) (lit< tt) refl

-- the variables' numbers
abbrev x₁ : Expression
x₁ = variable 0

abbrev y₁ : Expression
y₁ = variable 1

abbrev x₂ : Expression
x₂ = variable 2

abbrev y₂ : Expression
y₂ = variable 3

abbrev i : Expression
i = variable 4

abbrev e : Expression
e = variable 5

abbrev d : Expression
d = variable 6

abbrev m : Expression
m = constant minus_one

-- d x₁² y₁²
abbrev dxy : Expression
dxy = d ⊠ ((x₁ ⊠ x₁) ⊠ (y₁ ⊠ y₁))

abbrev square : Expression → Expression
square f = f ⊠ f

module _ (a b s t c : ℕ) (on₁ : OnCurve a b) (on₂ : OnCurve s t) (is : Congruent prime c (cross a b s t)) (unit : Congruent prime (c * c) 1) where
  abbrev values : List ℕ
  values = a ∷ b ∷ s ∷ t ∷ root ∷ c ∷ curve_d ∷ []

  one_product : Congruent prime (curve_d * ((a * a) * (b * b)) * (minus_one * (s * s) + t * t + minus_one)) 1
  one_product = chained (products itself (turned on₂.equation)) (chained (ring prime values (dxy ⊠ (d ⊠ ((x₂ ⊠ x₂) ⊠ (y₂ ⊠ y₂)))) (square (d ⊠ ((x₁ ⊠ y₁) ⊠ (x₂ ⊠ y₂)))) refl) (chained (products (turned is) (turned is)) unit))

  -- d x₁² y₁² y₂² = d x₁² y₁² x₂² - x₁² + y₁²
  moved : Congruent prime (curve_d * ((a * a) * (b * b)) * (t * t)) (curve_d * ((a * a) * (b * b)) * (s * s) + (minus_one * (a * a) + b * b))
  moved = chained (ring prime values (dxy ⊠ square y₂) ((dxy ⊠ (((m ⊠ square x₂) ⊞ square y₂) ⊞ m)) ⊞ ((dxy ⊠ square x₂) ⊞ dxy)) refl)
      (chained (sums one_product (sums itself on₁.equation))
      (ring prime values (constant 1 ⊞ ((dxy ⊠ square x₂) ⊞ (((m ⊠ square x₁) ⊞ square y₁) ⊞ m))) ((dxy ⊠ square x₂) ⊞ ((m ⊠ square x₁) ⊞ square y₁)) refl))

  abbrev facts : Equations
  facts =
      equation (i ⊠ i) m (equation (e ⊠ e) (constant 1) (equation (d ⊠ ((x₁ ⊠ y₁) ⊠ (x₂ ⊠ y₂))) e
      (equation (dxy ⊠ square y₂) ((dxy ⊠ square x₂) ⊞ ((m ⊠ square x₁) ⊞ square y₁)) no_equation)))

  square_sum : Congruent prime ((root * a + c * b) * (root * a + c * b)) (curve_d * (((a * b) * (root * s + t)) * ((a * b) * (root * s + t))))
  square_sum = follows prime values facts (root_squared, (unit, (turned is, (moved, tt)))) (refl, (refl, (refl, (refl, tt))))
      (square ((i ⊠ x₁) ⊞ (e ⊠ y₁))) (d ⊠ square ((x₁ ⊠ y₁) ⊠ ((i ⊠ x₂) ⊞ y₂))) refl

  square_difference : Congruent prime ((root * a + minus_one * (c * b)) * (root * a + minus_one * (c * b))) (curve_d * (((a * b) * (root * s + minus_one * t)) * ((a * b) * (root * s + minus_one * t))))
  square_difference = follows prime values facts (root_squared, (unit, (turned is, (moved, tt)))) (refl, (refl, (refl, (refl, tt))))
      (square ((i ⊠ x₁) ⊞ (m ⊠ (e ⊠ y₁)))) (d ⊠ square ((x₁ ⊠ y₁) ⊠ ((i ⊠ x₂) ⊞ (m ⊠ y₂)))) refl

  unit_not_zero : ¬ (Congruent prime c 0)
  unit_not_zero h = one_not_zero prime_is_prime (chained (turned unit) (products h h))

  first_not_zero : ¬ (Divides prime (a * b))
  first_not_zero h = unit_not_zero (chained is (chained (products itself (products (zero_from_divides h) itself)) (equal (omega arith))))

  -- x₂ is 0 if i x₂ + y₂ and i x₂ - y₂ are
  second_zero : Congruent prime (root * s + t) 0 → Congruent prime (root * s + minus_one * t) 0 → Congruent prime s 0
  second_zero h k = chained (follows prime values (equation (i ⊠ i) m no_equation) (root_squared, tt) (refl, tt) x₂ (((constant half ⊠ m) ⊠ i) ⊠ (((i ⊠ x₂) ⊞ y₂) ⊞ ((i ⊠ x₂) ⊞ (m ⊠ y₂)))) refl)
      (chained (products itself (sums h k)) (equal (omega arith)))

  contradiction : ⊥
  contradiction = elim (divides_or_not prime (root * s + t)) [
    | no n ↦ d_not_square (root * a + c * b) ((a * b) * (root * s + t)) (not_product prime_is_prime first_not_zero n) square_sum
    | yes h ↦ elim (divides_or_not prime (root * s + minus_one * t)) [
      | no n ↦ d_not_square (root * a + minus_one * (c * b)) ((a * b) * (root * s + minus_one * t)) (not_product prime_is_prime first_not_zero n) square_difference
      | yes k ↦
          let z = second_zero (zero_from_divides h) (zero_from_divides k) in
          unit_not_zero (chained is (chained (products itself (products itself (products z itself))) (equal (omega arith))))
    ]
  ]

-- 1 + d x₁ y₁ x₂ y₂ is not 0
pub sum_not_zero : (a b s t : ℕ) → OnCurve a b → OnCurve s t → ¬ (Divides prime (1 + cross a b s t))
sum_not_zero a b s t on₁ on₂ h =
    let c = cross a b s t in
    let is : Congruent prime c minus_one = chained (ring prime (c ∷ []) x₁ (m ⊞ (constant 1 ⊞ x₁)) refl) (chained (sums itself (zero_from_divides h)) (equal (omega arith))) in
    contradiction a b s t c on₁ on₂ itself (chained (products is is) (record { remainders = refl }))

-- 1 - d x₁ y₁ x₂ y₂ is not 0
pub difference_not_zero : (a b s t : ℕ) → OnCurve a b → OnCurve s t → ¬ (Divides prime (1 + minus_one * cross a b s t))
difference_not_zero a b s t on₁ on₂ h =
    let c = cross a b s t in
    let is : Congruent prime c 1 = chained (ring prime (c ∷ []) x₁ (constant 1 ⊞ (m ⊠ (constant 1 ⊞ (m ⊠ x₁)))) refl) (chained (sums itself (products itself (zero_from_divides h))) (equal (omega arith))) in
    contradiction a b s t c on₁ on₂ itself (chained (products is is) (record { remainders = refl }))
