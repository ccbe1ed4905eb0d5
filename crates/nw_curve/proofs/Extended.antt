-- Points in extended coordinates represent affine points: the sum, the double, the multiple and the encoding of the specs are those of the
-- affine group.
use Rattle.std.proofs.Common.{◌≡◌, ℕ, ◌+◌, ◌-◌, ◌*◌, ◌%◌, ◌<◌, List, [], ◌∷◌, refl, arith, lit<}
use Rattle.nw_curve.specs.declared.curve.point.Point.{Point}
use Rattle.nw_curve.specs.Field.{prime as modulus, plus, minus, times as product}
use Rattle.nw_curve.specs.Curve.{added, doubled, identity, finished, twice, curve_d}
use Rattle.nw_curve.proofs.Constants.{prime, minus_one}
use Rattle.nw_curve.proofs.Congruence.{Congruent, equal, itself, turned, chained, sums, products, remainder}
use Rattle.nw_curve.proofs.Polynomial.{Expression, expression_value, variable, constant, ◌⊞◌, ◌⊠◌}
use Rattle.nw_curve.proofs.Equations.{Equations, no_equation, equation, Alike, ring, follows}
use Rattle.nw_curve.proofs.Divisibility.{Divides, zero_from_divides, divisor_below, divides_itself}
use Rattle.nw_curve.proofs.Primes.{not_product}
use Rattle.nw_curve.proofs.PrimeField.{prime_is_prime}
use Rattle.nw_curve.proofs.Completeness.{cross, sum_not_zero, difference_not_zero}
use Rattle.nw_curve.proofs.AffineSums.{m}
use Rattle.nw_curve.proofs.Fractions.{not_zero_as}
use Rattle.nw_curve.proofs.AffineGroup.{below_prime, Affine, IsOnCurve, affine_sum, sum_is, neutral}

-- p is the point a: z is not 0, x / z and y / z are a's coordinates, and t / z is their product
pub record Represents (p : Point) (a : Affine) : Type 0 where
  pub x_below : p.x < prime
  pub y_below : p.y < prime
  pub z_below : p.z < prime
  pub t_below : p.t < prime
  pub z_not_zero : ¬ (Divides prime p.z)
  pub x : Congruent prime p.x (a.x * p.z)
  pub y : Congruent prime p.y (a.y * p.z)
  pub t : Congruent prime p.t ((a.x * a.y) * p.z)

pub not_zero_small : (n : ℕ) → 0 < n → n < prime → ¬ (Divides prime n)
not_zero_small n h k d = let b = divisor_below d h in omega arith

-- a difference modulo the prime is the sum with -b
minus_is : (a b c : ℕ) → b + c ≡ prime → Congruent prime ((a + c) % prime) (a + minus_one * b)
minus_is a b c h =
    chained remainder (sums itself (chained (ring prime (b ∷ c ∷ []) (variable 1) ((variable 0 ⊞ variable 1) ⊞ (m ⊠ variable 0)) refl)
    (chained (sums (chained (equal h) (zero_from_divides (divides_itself prime))) itself) (equal (omega arith)))))

pub difference : (a b : ℕ) → b < prime → Congruent prime ((a + (prime - b)) % prime) (a + minus_one * b)
difference a b h = minus_is a b (prime - b) (omega arith)

-- the last four products of a sum represent it, where they are the sum's parts times u and w
finished_represents : (a b : Affine) → IsOnCurve a → IsOnCurve b → (e f g h u w : ℕ) → ¬ (Divides prime u) → ¬ (Divides prime w)
    → Congruent prime e (u * (a.x * b.y + b.x * a.y)) → Congruent prime f (w * (1 + minus_one * cross a.x a.y b.x b.y))
    → Congruent prime g (u * (1 + cross a.x a.y b.x b.y)) → Congruent prime h (w * (a.y * b.y + a.x * b.x)) → Represents (finished e f g h) (affine_sum a b)
unfolding modulus
finished_represents a b va vb e f g h u w nu nw he hf hg hh =
    let c = affine_sum a b in
    let s = sum_is a b va vb in
    let v = λ (n : ℕ). variable n in
    let vs = u ∷ w ∷ c.x ∷ c.y ∷ (1 + cross a.x a.y b.x b.y) ∷ (1 + minus_one * cross a.x a.y b.x b.y) ∷ [] in
    let ex = chained he (products itself (turned s.x)) in
    let hy = chained hh (products itself (turned s.y)) in
    let z = chained (remainder {n = prime} {a = f * g}) (products hf hg) in
    let nz = not_product prime_is_prime (not_product prime_is_prime nw (difference_not_zero a.x a.y b.x b.y va.on_curve vb.on_curve)) (not_product prime_is_prime nu (sum_not_zero a.x a.y b.x b.y va.on_curve vb.on_curve)) in
    let zs = (v 1 ⊠ v 5) ⊠ (v 0 ⊠ v 4) in
    record {
      x_below = below_prime (e * f);
      y_below = below_prime (g * h);
      z_below = below_prime (f * g);
      t_below = below_prime (e * h);
      z_not_zero = not_zero_as (turned z) nz;
      x = chained remainder (chained (products ex hf) (chained (ring prime vs ((v 0 ⊠ (v 2 ⊠ v 4)) ⊠ (v 1 ⊠ v 5)) (v 2 ⊠ zs) refl) (products itself (turned z))));
      y = chained remainder (chained (products hg hy) (chained (ring prime vs ((v 0 ⊠ v 4) ⊠ (v 1 ⊠ (v 3 ⊠ v 5))) (v 3 ⊠ zs) refl) (products itself (turned z))));
      t = chained remainder (chained (products ex hy) (chained (ring prime vs ((v 0 ⊠ (v 2 ⊠ v 4)) ⊠ (v 1 ⊠ (v 3 ⊠ v 5))) ((v 2 ⊠ v 3) ⊠ zs) refl) (products itself (turned z))));
    }

two_not_zero : ¬ (Divides prime 2)
two_not_zero = not_zero_small 2 (omega arith) (lit< tt)

two_times : (z : ℕ) → ¬ (Divides prime z) → ¬ (Divides prime (z + z))
two_times z n = not_zero_as (equal (omega arith)) (not_product prime_is_prime two_not_zero n)

-- the coordinates of two points, of the affine points that they represent, and d
abbrev all_values : Point → Point → Affine → Affine → List ℕ
all_values p q a b = p.x ∷ p.y ∷ p.z ∷ p.t ∷ q.x ∷ q.y ∷ q.z ∷ q.t ∷ a.x ∷ a.y ∷ b.x ∷ b.y ∷ curve_d ∷ []

-- the coordinates by the affine points'
abbrev represented : Equations
represented =
    equation (variable 0) (variable 8 ⊠ variable 2) (equation (variable 1) (variable 9 ⊠ variable 2) (equation (variable 3) ((variable 8 ⊠ variable 9) ⊠ variable 2)
    (equation (variable 4) (variable 10 ⊠ variable 6) (equation (variable 5) (variable 11 ⊠ variable 6) (equation (variable 7) ((variable 10 ⊠ variable 11) ⊠ variable 6) no_equation)))))

from_represented : (p q : Point) (a b : Affine) → Represents p a → Represents q b → (d e : Expression)
    → Alike prime (all_values p q a b) represented d e → Congruent prime (expression_value (all_values p q a b) d) (expression_value (all_values p q a b) e)
from_represented p q a b r s d e same =
    follows prime (all_values p q a b) represented (r.x, (r.y, (r.t, (s.x, (s.y, (s.t, tt)))))) (refl, (refl, (refl, (refl, (refl, (refl, tt)))))) d e same

abbrev v : ℕ → Expression
v n = variable n

-- the sum of two represented points represents their sum
pub added_represents : (p q : Point) (a b : Affine) → IsOnCurve a → IsOnCurve b → Represents p a → Represents q b → Represents (added p q) (affine_sum a b)
unfolding added modulus
added_represents p q a b va vb r s =
    let w = (p.z + p.z) * q.z in
    let ca = minus p.y p.x in
    let cb = minus q.y q.x in
    let pa = product ca cb in
    let pb = product (plus p.y p.x) (plus q.y q.x) in
    let pc = product (product p.t (twice curve_d)) q.t in
    let pd = product (twice p.z) q.z in
    let ia : Congruent prime pa ((p.y + minus_one * p.x) * (q.y + minus_one * q.x)) = chained remainder (products (difference p.y p.x r.x_below) (difference q.y q.x s.x_below)) in
    let ib : Congruent prime pb ((p.y + p.x) * (q.y + q.x)) = chained remainder (products remainder remainder) in
    let ic : Congruent prime pc ((p.t * (curve_d + curve_d)) * q.t) =
    chained remainder (products (chained remainder (products itself remainder)) itself) in
    let id : Congruent prime pd ((p.z + p.z) * q.z) = chained remainder (products remainder itself) in
    let ea = ((v 1 ⊞ (m ⊠ v 0)) ⊠ (v 5 ⊞ (m ⊠ v 4))) in
    let eb = ((v 1 ⊞ v 0) ⊠ (v 5 ⊞ v 4)) in
    let ec = ((v 3 ⊠ (v 12 ⊞ v 12)) ⊠ v 7) in
    let ed = ((v 2 ⊞ v 2) ⊠ v 6) in
    let cross_of = v 12 ⊠ ((v 8 ⊠ v 9) ⊠ (v 10 ⊠ v 11)) in
    finished_represents a b va vb (minus pb pa) (minus pd pc) (plus pd pc) (plus pb pa) w w
    (not_product prime_is_prime (two_times p.z r.z_not_zero) s.z_not_zero) (not_product prime_is_prime (two_times p.z r.z_not_zero) s.z_not_zero)
    (chained (difference pb pa (below_prime (ca * cb))) (chained (sums ib (products itself ia)) (from_represented p q a b r s (eb ⊞ (m ⊠ ea)) (ed ⊠ ((v 8 ⊠ v 11) ⊞ (v 10 ⊠ v 9))) refl)))
    (chained (difference pd pc (below_prime (product p.t (twice curve_d) * q.t))) (chained (sums id (products itself ic)) (from_represented p q a b r s (ed ⊞ (m ⊠ ec)) (ed ⊠ (constant 1 ⊞ (m ⊠ cross_of))) refl)))
    (chained remainder (chained (sums id ic) (from_represented p q a b r s (ed ⊞ ec) (ed ⊠ (constant 1 ⊞ cross_of)) refl)))
    (chained remainder (chained (sums ib ia) (from_represented p q a b r s (eb ⊞ ea) (ed ⊠ ((v 9 ⊠ v 11) ⊞ (v 8 ⊠ v 10))) refl)))

-- the coordinates of a point on the curve, of the affine point that it represents, and d
abbrev own_values : Point → Affine → List ℕ
own_values p a = p.x ∷ p.y ∷ p.z ∷ a.x ∷ a.y ∷ curve_d ∷ []

abbrev on_curve : Equations
on_curve =
    equation (v 0) (v 3 ⊠ v 2) (equation (v 1) (v 4 ⊠ v 2) (equation (v 5 ⊠ ((v 3 ⊠ v 3) ⊠ (v 4 ⊠ v 4))) (((m ⊠ (v 3 ⊠ v 3)) ⊞ (v 4 ⊠ v 4)) ⊞ m) no_equation))

from_curve : (p : Point) (a : Affine) → IsOnCurve a → Represents p a → (d e : Expression) → Alike prime (own_values p a) on_curve d e
    → Congruent prime (expression_value (own_values p a) d) (expression_value (own_values p a) e)
from_curve p a va r d e same = follows prime (own_values p a) on_curve (r.x, (r.y, (va.on_curve.equation, tt))) (refl, (refl, (refl, tt))) d e same

-- the double of a represented point represents its sum with itself
pub doubled_represents : (p : Point) (a : Affine) → IsOnCurve a → Represents p a → Represents (doubled p) (affine_sum a a)
unfolding doubled modulus
doubled_represents p a va r =
    let pa = product p.x p.x in
    let pb = product p.y p.y in
    let pc = twice (product p.z p.z) in
    let ph = plus pa pb in
    let ps = plus p.x p.y in
    let pg = minus pa pb in
    let ia : Congruent prime pa (p.x * p.x) = remainder in
    let ib : Congruent prime pb (p.y * p.y) = remainder in
    let ic : Congruent prime pc (p.z * p.z + p.z * p.z) = chained remainder (sums remainder remainder) in
    let ih : Congruent prime ph (p.x * p.x + p.y * p.y) = chained remainder (sums ia ib) in
    let is : Congruent prime (product ps ps) ((p.x + p.y) * (p.x + p.y)) = chained remainder (products remainder remainder) in
    let ig : Congruent prime pg (p.x * p.x + minus_one * (p.y * p.y)) = chained (difference pa pb (below_prime (p.y * p.y))) (sums ia (products itself ib)) in
    let x2 = v 0 ⊠ v 0 in
    let y2 = v 1 ⊠ v 1 in
    let z2 = v 2 ⊠ v 2 in
    let g = x2 ⊞ (m ⊠ y2) in
    let cross_of = v 5 ⊠ ((v 3 ⊠ v 4) ⊠ (v 3 ⊠ v 4)) in
    let nz = not_product prime_is_prime r.z_not_zero r.z_not_zero in
    finished_represents a a va va (minus ph (product ps ps)) (plus pc pg) pg ph (minus_one * (p.z * p.z)) (p.z * p.z)
    (not_product prime_is_prime (not_zero_small minus_one (lit< tt) (lit< tt)) nz) nz
    (chained (difference ph (product ps ps) (below_prime (ps * ps))) (chained (sums ih (products itself is))
    (from_curve p a va r ((x2 ⊞ y2) ⊞ (m ⊠ ((v 0 ⊞ v 1) ⊠ (v 0 ⊞ v 1)))) ((m ⊠ z2) ⊠ ((v 3 ⊠ v 4) ⊞ (v 3 ⊠ v 4))) refl)))
    (chained remainder (chained (sums ic ig) (from_curve p a va r ((z2 ⊞ z2) ⊞ g) (z2 ⊠ (constant 1 ⊞ (m ⊠ cross_of))) refl)))
    (chained ig (from_curve p a va r g ((m ⊠ z2) ⊠ (constant 1 ⊞ cross_of)) refl))
    (chained ih (from_curve p a va r (x2 ⊞ y2) (z2 ⊠ ((v 4 ⊠ v 4) ⊞ (v 3 ⊠ v 3))) refl))

pub identity_represents : Represents identity neutral
identity_represents = record {
  x_below = lit< tt;
  y_below = lit< tt;
  z_below = lit< tt;
  t_below = lit< tt;
  z_not_zero = not_zero_small 1 (omega arith) (lit< tt);
  x = equal refl;
  y = equal refl;
  t = equal refl;
}
