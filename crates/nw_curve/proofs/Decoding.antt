-- A decoded key is a point on the curve, and so is the base point.
use Rattle.std.proofs.Common.{◌≡◌, ℕ, ◌+◌, ◌-◌, ◌*◌, ◌/◌, ◌%◌, ◌^◌, ◌<◌, Bool, true, false, List, [], ◌∷◌, Option, Some, None, refl, arith, lit<, ◌==◌, ◌&&◌, if◌then◌else◌, nat_lt, rules}
use Rattle.std.proofs.Math.Nat.{mod-lt}
use Rattle.std.specs.Bool.{beq}
use Rattle.std.specs.Int.{bit_at}
use Rattle.nw_curve.specs.Bytes.{number_from_bytes}
use Rattle.nw_curve.specs.declared.curve.point.Point.{Point}
use Rattle.nw_curve.specs.Field.{prime as modulus, plus, minus, times as product, power}
use Rattle.nw_curve.specs.Curve.{base, curve_d}
use Rattle.nw_curve.specs.Coding.{decoded, recovered, root as square_root, with_sign, affine, is_odd, root_of_minus_one}
use Rattle.nw_curve.proofs.Constants.{prime, minus_one}
use Rattle.nw_curve.proofs.Congruence.{Congruent, equal, itself, turned, chained, sums, products, remainder}
use Rattle.nw_curve.proofs.Polynomial.{equal_numbers, variable, constant, ◌⊞◌, ◌⊠◌}
use Rattle.nw_curve.proofs.Equations.{no_equation, equation, ring, follows}
use Rattle.nw_curve.proofs.Completeness.{OnCurve}
use Rattle.nw_curve.proofs.AffineSums.{m}
use Rattle.nw_curve.proofs.AffineGroup.{Affine, IsOnCurve}
use Rattle.nw_curve.proofs.Extended.{Represents, difference, not_zero_small}
use Rattle.nw_curve.proofs.Negatives.{opposite, opposite_is}

abbrev pub affine_base : Affine
unfolding base
affine_base = record { x = base.x; y = base.y }

pub base_valid : IsOnCurve affine_base
unfolding base curve_d
base_valid = record { x_below = lit< tt; y_below = lit< tt; on_curve = record { equation = record { remainders = refl } } }

pub base_represents : Represents base affine_base
unfolding base
base_represents = record {
  x_below = lit< tt;
  y_below = lit< tt;
  z_below = lit< tt;
  t_below = lit< tt;
  z_not_zero = not_zero_small 1 (omega arith) (lit< tt);
  x = record { remainders = refl };
  y = record { remainders = refl };
  t = record { remainders = refl };
}

-- r is a square root of u / v
record IsRoot (u v r : ℕ) : Type 0 where
  small : r < prime
  is : Congruent prime (v * (r * r)) u

-- what is known of an optional root
abbrev RootIfAny : ℕ → ℕ → Option ℕ → Type 0
RootIfAny u v None = Unit {0}
RootIfAny u v (Some r) = IsRoot u v r

candidate : (u v r s i : ℕ) → u < prime → r < prime → Congruent prime s (v * (r * r)) → Congruent prime (i * i) minus_one → (b c : Bool) → (s == u) ≡ b → (s == opposite u) ≡ c
    → RootIfAny u v (if b then Some r else (if c then Some (r * i % prime) else None))
candidate u v r s i hu hr h hi true c e f = record { small = hr; is = chained (turned h) (equal (equal_numbers s u e)) }
candidate u v r s i hu hr h hi false true e f =
    let vs = u ∷ v ∷ r ∷ i ∷ [] in
    record {
      small = mod-lt (r * i) (lit< tt);
      is = chained (products itself (products remainder remainder))
          (chained (follows prime vs (equation (variable 3 ⊠ variable 3) m no_equation) (hi, tt) (refl, tt) (variable 1 ⊠ ((variable 2 ⊠ variable 3) ⊠ (variable 2 ⊠ variable 3))) (m ⊠ (variable 1 ⊠ (variable 2 ⊠ variable 2))) refl)
          (chained (products itself (chained (turned h) (chained (equal (equal_numbers s (opposite u) f)) (opposite_is u hu)))) (ring prime vs (m ⊠ (m ⊠ variable 0)) (variable 0) refl)));
    }
candidate u v r s i hu hr h hi false false e f = tt

root_if_any : (u v : ℕ) → u < prime → RootIfAny u v (square_root u v)
unfolding square_root modulus root_of_minus_one
root_if_any u v h =
    let r = product (product u (power v 3)) (power (product u (power v 7)) ((modulus - 5) / 8)) in
    let s = product v (product r r) in
    candidate u v r s root_of_minus_one h (mod-lt (product u (power v 3) * power (product u (power v 7)) ((modulus - 5) / 8)) (lit< tt)) (chained remainder (products itself remainder)) (record { remainders = refl })
    (s == u) (s == opposite u) refl refl

either_sign : (u v x : ℕ) → IsRoot u v x → (b c : Bool) → RootIfAny u v (if b then None else (if c then Some x else Some (opposite x)))
either_sign u v x r true c = tt
either_sign u v x r false true = r
either_sign u v x r false false = record {
  small = mod-lt (0 + (prime - x)) (lit< tt);
  is = chained (follows prime (opposite x ∷ x ∷ v ∷ []) (equation (variable 0) (m ⊠ variable 1) no_equation) (opposite_is x r.small, tt) (refl, tt) (variable 2 ⊠ (variable 0 ⊠ variable 0)) (variable 2 ⊠ (variable 1 ⊠ variable 1)) refl) r.is;
}

signed : (u v : ℕ) (sign : Bool) (o : Option ℕ) → RootIfAny u v o → RootIfAny u v (with_sign sign o)
unfolding modulus
signed u v sign None r = tt
signed u v sign (Some x) r = either_sign u v x r ((x == 0) && sign) (beq (is_odd x) sign)

-- the two coordinates of a point whose z is 1
abbrev pub coordinates : Point → Affine
coordinates p = record { x = p.x; y = p.y }

-- what is known of an optional point
abbrev pub PointIfAny : Option Point → Type 0
PointIfAny None = Unit {0}
PointIfAny (Some p) = IsOnCurve (coordinates p) × Represents p (coordinates p)

on_the_curve : (x y u w : ℕ) → Congruent prime u (y * y + minus_one * 1) → Congruent prime w (curve_d * (y * y) + 1) → Congruent prime (w * (x * x)) u → OnCurve x y
on_the_curve x y u w hu hw h =
    let vs = x ∷ y ∷ curve_d ∷ [] in
    let xx = variable 0 ⊠ variable 0 in
    let yy = variable 1 ⊠ variable 1 in
    record {
      equation = chained (ring prime vs (variable 2 ⊠ (xx ⊠ yy)) ((((variable 2 ⊠ yy) ⊞ constant 1) ⊠ xx) ⊞ (m ⊠ xx)) refl)
          (chained (sums (chained (products (turned hw) itself) (chained h hu)) itself)
          (ring prime vs ((yy ⊞ (m ⊠ constant 1)) ⊞ (m ⊠ xx)) (((m ⊠ xx) ⊞ yy) ⊞ m) refl));
    }

affine_point : (y : ℕ) → y < prime → (o : Option ℕ) → RootIfAny (minus (product y y) 1) (plus (product curve_d (product y y)) 1) o → PointIfAny (affine y o)
unfolding modulus
affine_point y h None r = tt
affine_point y h (Some x) r =
    let hu : Congruent prime (minus (product y y) 1) (y * y + minus_one * 1) = chained (difference (product y y) 1 (lit< tt)) (sums remainder itself) in
    let hw : Congruent prime (plus (product curve_d (product y y)) 1) (curve_d * (y * y) + 1) =
    chained remainder (sums (chained remainder (products itself remainder)) itself) in (
      record { x_below = r.small; y_below = h; on_curve = on_the_curve x y (minus (product y y) 1) (plus (product curve_d (product y y)) 1) hu hw r.is },
      record {
        x_below = r.small;
        y_below = h;
        z_below = lit< tt;
        t_below = mod-lt (x * y) (lit< tt);
        z_not_zero = not_zero_small 1 (omega arith) (lit< tt);
        x = equal (omega arith);
        y = equal (omega arith);
        t = chained remainder (equal (omega arith));
      },
    )

recovered_point : (y : ℕ) (sign : Bool) → y < prime → PointIfAny (affine y (recovered y sign))
unfolding recovered modulus
recovered_point y sign h =
    let u = minus (product y y) 1 in
    let w = plus (product curve_d (product y y)) 1 in
    affine_point y h (with_sign sign (square_root u w)) (signed u w sign (square_root u w) (root_if_any u w (mod-lt (product y y + (modulus - 1)) (lit< tt))))

if_below : (y : ℕ) (sign b : Bool) → nat_lt y prime ≡ b → PointIfAny (if b then affine y (recovered y sign) else None)
if_below y sign true h = recovered_point y sign (search rules)
if_below y sign false h = tt

-- a decoded key is on the curve
pub decoded_point : (bytes : List ℕ) → PointIfAny (decoded bytes)
unfolding decoded modulus
decoded_point bytes =
    let n = number_from_bytes bytes in
    if_below (n % 2 ^ 255) (bit_at n 255 == 1) (nat_lt (n % 2 ^ 255) prime) refl
