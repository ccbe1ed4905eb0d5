-- The negative of a point, of a sum and of a multiple; and multiples of multiples.
use Rattle.std.proofs.Common.{◌≡◌, ℕ, zero, suc, ◌+◌, ◌-◌, ◌*◌, ◌%◌, ◌<◌, [], ◌∷◌, refl, ◌∙◌, ap, arith, lit<}
use Rattle.std.proofs.Math.Nat.{mod-lt}
use Rattle.nw_curve.specs.declared.curve.point.Point.{Point}
use Rattle.nw_curve.specs.Field.{prime as modulus}
use Rattle.nw_curve.specs.Curve.{negated, curve_d}
use Rattle.nw_curve.proofs.Constants.{prime, minus_one}
use Rattle.nw_curve.proofs.Congruence.{Congruent, equal, itself, chained, products}
use Rattle.nw_curve.proofs.Polynomial.{variable, constant, ◌⊞◌, ◌⊠◌}
use Rattle.nw_curve.proofs.Equations.{no_equation, equation, follows}
use Rattle.nw_curve.proofs.AffineSums.{m}
use Rattle.nw_curve.proofs.AffineGroup.{Affine, IsOnCurve, affine_sum, sum_is, sum_valid, sum_from, times, times_valid, times_sum}
use Rattle.nw_curve.proofs.Extended.{Represents, difference}

abbrev pub opposite : ℕ → ℕ
opposite x = (0 + (prime - x)) % prime

pub opposite_is : (x : ℕ) → x < prime → Congruent prime (opposite x) (minus_one * x)
opposite_is x h = chained (difference 0 x h) (equal (omega arith))

abbrev pub negative_of : Affine → Affine
negative_of a = record { x = opposite a.x; y = a.y }

pub negative_valid : (a : Affine) → IsOnCurve a → IsOnCurve (negative_of a)
negative_valid a u = record {
  x_below = mod-lt (0 + (prime - a.x)) (lit< tt);
  y_below = u.y_below;
  on_curve = record {
    equation = follows prime (opposite a.x ∷ a.x ∷ a.y ∷ curve_d ∷ [])
        (equation (variable 0) (m ⊠ variable 1) (equation (variable 3 ⊠ ((variable 1 ⊠ variable 1) ⊠ (variable 2 ⊠ variable 2))) (((m ⊠ (variable 1 ⊠ variable 1)) ⊞ (variable 2 ⊠ variable 2)) ⊞ m) no_equation))
        (opposite_is a.x u.x_below, (u.on_curve.equation, tt)) (refl, (refl, tt))
        (variable 3 ⊠ ((variable 0 ⊠ variable 0) ⊠ (variable 2 ⊠ variable 2))) (((m ⊠ (variable 0 ⊠ variable 0)) ⊞ (variable 2 ⊠ variable 2)) ⊞ m) refl;
  };
}

-- the negative of a represented point represents the negative
pub negated_represents : (p : Point) (a : Affine) → IsOnCurve a → Represents p a → Represents (negated p) (negative_of a)
unfolding modulus
negated_represents p a u r =
    let vs = opposite p.x ∷ p.x ∷ opposite p.t ∷ p.t ∷ p.z ∷ opposite a.x ∷ a.x ∷ a.y ∷ [] in
    let v = λ (n : ℕ). variable n in
    let es =
    equation (v 0) (m ⊠ v 1) (equation (v 2) (m ⊠ v 3) (equation (v 5) (m ⊠ v 6) (equation (v 1) (v 6 ⊠ v 4) (equation (v 3) ((v 6 ⊠ v 7) ⊠ v 4) no_equation)))) in
    record {
      x_below = mod-lt (0 + (prime - p.x)) (lit< tt);
      y_below = r.y_below;
      z_below = r.z_below;
      t_below = mod-lt (0 + (prime - p.t)) (lit< tt);
      z_not_zero = r.z_not_zero;
      x = follows prime vs es (opposite_is p.x r.x_below, (opposite_is p.t r.t_below, (opposite_is a.x u.x_below, (r.x, (r.t, tt))))) (refl, (refl, (refl, (refl, (refl, tt))))) (v 0) (v 5 ⊠ v 4) refl;
      y = r.y;
      t = follows prime vs es (opposite_is p.x r.x_below, (opposite_is p.t r.t_below, (opposite_is a.x u.x_below, (r.x, (r.t, tt))))) (refl, (refl, (refl, (refl, (refl, tt))))) (v 2) ((v 5 ⊠ v 7) ⊠ v 4) refl;
    }

-- -(P + Q) = -P + -Q
pub negative_sum : (a b : Affine) → IsOnCurve a → IsOnCurve b → affine_sum (negative_of a) (negative_of b) ≡ negative_of (affine_sum a b)
negative_sum a b va vb =
    let c = affine_sum a b in
    let vc = sum_valid a b va vb in
    let s = sum_is a b va vb in
    let v = λ (n : ℕ). variable n in
    let vs = opposite a.x ∷ a.x ∷ opposite b.x ∷ b.x ∷ opposite c.x ∷ c.x ∷ a.y ∷ b.y ∷ c.y ∷ curve_d ∷ [] in
    let es = equation (v 0) (m ⊠ v 1) (equation (v 2) (m ⊠ v 3) (equation (v 4) (m ⊠ v 5) no_equation)) in
    let cross_of = λ (i j : ℕ). v 9 ⊠ ((v i ⊠ v 6) ⊠ (v j ⊠ v 7)) in
    sum_from (negative_of a) (negative_of b) (negative_of c) (negative_valid a va) (negative_valid b vb) (negative_valid c vc)
    (record {
      x = chained (follows prime vs es (opposite_is a.x va.x_below, (opposite_is b.x vb.x_below, (opposite_is c.x vc.x_below, tt))) (refl, (refl, (refl, tt))) (v 4 ⊠ (constant 1 ⊞ cross_of 0 2)) (m ⊠ (v 5 ⊠ (constant 1 ⊞ cross_of 1 3))) refl)
          (chained (products itself s.x) (follows prime vs es (opposite_is a.x va.x_below, (opposite_is b.x vb.x_below, (opposite_is c.x vc.x_below, tt))) (refl, (refl, (refl, tt))) (m ⊠ ((v 1 ⊠ v 7) ⊞ (v 3 ⊠ v 6))) ((v 0 ⊠ v 7) ⊞ (v 2 ⊠ v 6)) refl));
      y = chained (follows prime vs es (opposite_is a.x va.x_below, (opposite_is b.x vb.x_below, (opposite_is c.x vc.x_below, tt))) (refl, (refl, (refl, tt))) (v 8 ⊠ (constant 1 ⊞ (m ⊠ cross_of 0 2))) (v 8 ⊠ (constant 1 ⊞ (m ⊠ cross_of 1 3))) refl)
          (chained s.y (follows prime vs es (opposite_is a.x va.x_below, (opposite_is b.x vb.x_below, (opposite_is c.x vc.x_below, tt))) (refl, (refl, (refl, tt))) ((v 6 ⊠ v 7) ⊞ (v 1 ⊠ v 3)) ((v 6 ⊠ v 7) ⊞ (v 0 ⊠ v 2)) refl));
    })

-- n (-P) = -(n P)
pub times_negative : (n : ℕ) (a : Affine) → IsOnCurve a → times n (negative_of a) ≡ negative_of (times n a)
unfolding times
times_negative zero a u = refl
times_negative (suc n) a u = ap (λ (b : Affine). affine_sum b (negative_of a)) (times_negative n a u) ∙ negative_sum (times n a) a (times_valid n a u) u

-- (k n) P = k (n P)
pub times_product : (k n : ℕ) (a : Affine) → IsOnCurve a → times (k * n) a ≡ times k (times n a)
unfolding times
times_product zero n a u = let e : zero * n ≡ 0 = omega arith in ap (λ (j : ℕ). times j a) e
times_product (suc k) n a u =
    let e : suc k * n ≡ k * n + n = omega arith in
    ap (λ (j : ℕ). times j a) e ∙ (times_sum (k * n) n a u ∙ ap (λ (b : Affine). affine_sum b (times n a)) (times_product k n a u))
