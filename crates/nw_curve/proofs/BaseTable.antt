-- Each row of the table of the base point's odd multiples is that multiple with Z 1, prepared for sums. The rows are checked by computing them.
use Rattle.std.proofs.Common.{◌≡◌, ℕ, zero, suc, ◌+◌, ◌-◌, ◌*◌, ◌<◌, ◌≢◌, Bool, true, false, T, ◌&&◌, ◌==◌, nat_lt, if◌then◌else◌, List, [], get_or, refl, sym, ◌∙◌, arith, ltb→lt, eqb→eq}
use Rattle.std.proofs.Math.Nat.{mul_comm, mul_assoc}
use Rattle.std.proofs.lemmas.Bool.Decides.{nat_tests}
use lib.Ieee.Fits.{and_l, and_r}
use Rattle.nw_curve.specs.declared.curve.point.Point.{Point}
use Rattle.nw_curve.specs.declared.curve.completed.AffineAddend.{AffineAddend}
use Rattle.nw_curve.specs.declared.curve.base_table.differences.TheConstants.{DIFFERENCES}
use Rattle.nw_curve.specs.declared.curve.base_table.sums.TheConstants.{SUMS}
use Rattle.nw_curve.specs.declared.curve.base_table.products.TheConstants.{PRODUCTS}
use Rattle.nw_curve.specs.Field.{prime as modulus, plus, minus, times, inverse}
use Rattle.nw_curve.specs.Curve.{added, doubled, base, curve_d, twice}
use Rattle.nw_curve.specs.Completed.{normalized, affine_prepared}
use Rattle.nw_curve.specs.Table.{odd_multiple, number_from_halves}
use Rattle.nw_curve.proofs.Constants.{prime, minus_one}
use Rattle.nw_curve.proofs.Congruence.{Congruent, equal, itself, turned, chained, sums, products, remainder}
use Rattle.nw_curve.proofs.Divisibility.{Divides}
use Rattle.nw_curve.proofs.Products.{times_times}
use Rattle.nw_curve.proofs.AffineGroup.{below_prime, same_number, inverse_is}
use Rattle.nw_curve.proofs.Extended.{difference}
use Rattle.nw_curve.proofs.Decoding.{affine_base, base_valid, base_represents}
use Rattle.nw_curve.proofs.Tables.{odd_represents}

-- c is below the prime, and times z it is n
record IsQuotient (c z n : ℕ) : Type 0 where
  below : c < modulus
  is : times c z ≡ n

abbrev is_quotient : ℕ → ℕ → ℕ → Bool
is_quotient c z n = nat_lt c modulus && (times c z == n)

quotient_from : (c z n : ℕ) → T (is_quotient c z n) → IsQuotient c z n
quotient_from c z n h = record { below = ltb→lt c modulus (and_l (nat_lt c modulus) (times c z == n) h); is = eqb→eq (times c z) n (and_r (nat_lt c modulus) (times c z == n) h) }

-- d, s and t are the point with Z 1, prepared for sums
record IsRow (p : Point) (d s t : ℕ) : Type 0 where
  difference : IsQuotient d p.z (minus p.y p.x)
  sum : IsQuotient s p.z (plus p.y p.x)
  twice_d_t : IsQuotient t p.z (times (twice curve_d) p.t)

abbrev is_row : Point → ℕ → ℕ → ℕ → Bool
is_row p d s t = is_quotient d p.z (minus p.y p.x) && (is_quotient s p.z (plus p.y p.x) && is_quotient t p.z (times (twice curve_d) p.t))

row_from : (p : Point) (d s t : ℕ) → T (is_row p d s t) → IsRow p d s t
row_from p d s t h =
    let a = is_quotient d p.z (minus p.y p.x) in
    let b = is_quotient s p.z (plus p.y p.x) in
    let c = is_quotient t p.z (times (twice curve_d) p.t) in
    let rest = and_r a (b && c) h in
    record {
      difference = quotient_from d p.z (minus p.y p.x) (and_l a (b && c) h);
      sum = quotient_from s p.z (plus p.y p.x) (and_l b c rest);
      twice_d_t = quotient_from t p.z (times (twice curve_d) p.t) (and_r b c rest);
    }

-- number i of a table
abbrev pub number_at : List (List ℕ) → ℕ → ℕ
number_at table i = number_from_halves (get_or table i [])

-- the first n rows are those of p, p + d, p + 2 d and so on, and so those from row i on
abbrev are_rows : ℕ → ℕ → Point → Point → Bool
are_rows zero i d p = true
are_rows (suc n) i d p = is_row p (number_at DIFFERENCES i) (number_at SUMS i) (number_at PRODUCTS i) && are_rows n (suc i) d (added p d)

all_rows : T (are_rows 64 0 (doubled base) (odd_multiple 0 base))
unfolding added doubled base curve_d modulus odd_multiple
all_rows = tt

-- what holds of all rows holds of row i
abbrev IsRowOfBase : ℕ → Type 0
IsRowOfBase i = IsRow (odd_multiple i base) (number_at DIFFERENCES i) (number_at SUMS i) (number_at PRODUCTS i)

row_at : (n : ℕ) (d : Point) (i j : ℕ) → d ≡ doubled base → T (are_rows n j d (odd_multiple j base)) → i < n → IsRowOfBase (i + j)
unfolding odd_multiple
row_at zero d i j e h l = absurd (omega arith)
row_at (suc n) d zero j e h l =
    let z : 0 + j ≡ j = omega arith in
    let row = is_row (odd_multiple j base) (number_at DIFFERENCES j) (number_at SUMS j) (number_at PRODUCTS j) in
    rw z (row_from (odd_multiple j base) (number_at DIFFERENCES j) (number_at SUMS j) (number_at PRODUCTS j) (and_l row (are_rows n (suc j) d (added (odd_multiple j base) d)) h))
row_at (suc n) d (suc i) j e h l =
    let next : added (odd_multiple j base) d ≡ odd_multiple (suc j) base = rw e refl in
    let k : i + suc j ≡ suc i + j = omega arith in
    let row = is_row (odd_multiple j base) (number_at DIFFERENCES j) (number_at SUMS j) (number_at PRODUCTS j) in
    let rest = and_r row (are_rows n (suc j) d (added (odd_multiple j base) d)) h in
    rw (← k) (row_at n d i (suc j) e (rw next at rest) (omega arith))

-- row i is the base point times 2 i + 1
row_is : (i : ℕ) → i < 64 → IsRowOfBase i
row_is i h =
    let z : i + 0 ≡ i = omega arith in
    let r = row_at 64 (doubled base) i 0 refl all_rows h in
    rw z at r

-- a number whose product with z is n is n times the inverse of z
quotient_is : (c z n : ℕ) → ¬ (Divides prime z) → IsQuotient c z n → c ≡ times n (inverse z)
unfolding modulus
quotient_is c z n nz h =
    let i = inverse z in
    let one : Congruent prime (z * i) 1 = chained (equal (mul_comm z i)) (inverse_is z nz) in
    let whole : c ≡ c * 1 = omega arith in
    same_number c (times n i) h.below (below_prime (n * i))
    (chained (equal whole) (chained (products itself (turned one)) (chained (equal (sym (mul_assoc c z i))) (chained (products (chained (turned remainder) (equal h.is)) itself) (turned remainder)))))

-- a common factor of a difference and of a sum
difference_times : (x y i : ℕ) → x < prime → times (minus y x) i ≡ minus (times y i) (times x i)
unfolding modulus
difference_times x y i h =
    let left : Congruent prime (times (minus y x) i) ((y + minus_one * x) * i) = chained remainder (products (difference y x h) itself) in
    let right : Congruent prime (minus (times y i) (times x i)) (y * i + minus_one * (x * i)) = chained (difference (times y i) (times x i) (below_prime (x * i))) (sums remainder (products itself remainder)) in
    let same : (y + minus_one * x) * i ≡ y * i + minus_one * (x * i) = omega arith in
    same_number (times (minus y x) i) (minus (times y i) (times x i)) (below_prime (minus y x * i)) (below_prime (times y i + (prime - times x i)))
    (chained left (chained (equal same) (turned right)))

sum_times : (x y i : ℕ) → times (plus y x) i ≡ plus (times y i) (times x i)
unfolding modulus
sum_times x y i =
    let left : Congruent prime (times (plus y x) i) ((y + x) * i) = chained remainder (products remainder itself) in
    let right : Congruent prime (plus (times y i) (times x i)) (y * i + x * i) = chained remainder (sums remainder remainder) in
    let same : (y + x) * i ≡ y * i + x * i = omega arith in
    same_number (times (plus y x) i) (plus (times y i) (times x i)) (below_prime (plus y x * i)) (below_prime (times y i + times x i))
    (chained left (chained (equal same) (turned right)))

prepared_row : (p : Point) (a b c : ℕ) → p.x < prime → a ≡ times (minus p.y p.x) (inverse p.z) → b ≡ times (plus p.y p.x) (inverse p.z) → c ≡ times (times (twice curve_d) p.t) (inverse p.z)
    → (let r : AffineAddend = record { difference = a; sum = b; twice_d_t = c } in r ≡ affine_prepared (normalized p))
unfolding normalized affine_prepared
prepared_row p a b c h ea eb ec = let i = inverse p.z in rw (ea, eb, ec, difference_times p.x p.y i h, sum_times p.x p.y i, times_times (twice curve_d) p.t i) refl

-- each number of a row is below the prime
pub difference_below : (i : ℕ) → i < 64 → number_at DIFFERENCES i < modulus
difference_below i h = (row_is i h).difference.below

pub sum_below : (i : ℕ) → i < 64 → number_at SUMS i < modulus
sum_below i h = (row_is i h).sum.below

pub product_below : (i : ℕ) → i < 64 → number_at PRODUCTS i < modulus
product_below i h = (row_is i h).twice_d_t.below

-- and they are those of the multiple with Z 1
pub row_prepared : (i : ℕ) → i < 64 → (a b c : ℕ) → a ≡ number_at DIFFERENCES i → b ≡ number_at SUMS i → c ≡ number_at PRODUCTS i
    → (let r : AffineAddend = record { difference = a; sum = b; twice_d_t = c } in r ≡ affine_prepared (normalized (odd_multiple i base)))
row_prepared i h a b c ea eb ec =
    let p = odd_multiple i base in
    let on = odd_represents i base affine_base base_valid base_represents in
    let r = row_is i h in
    prepared_row p a b c on.x_below
    (ea ∙ quotient_is (number_at DIFFERENCES i) p.z (minus p.y p.x) on.z_not_zero r.difference)
    (eb ∙ quotient_is (number_at SUMS i) p.z (plus p.y p.x) on.z_not_zero r.sum)
    (ec ∙ quotient_is (number_at PRODUCTS i) p.z (times (twice curve_d) p.t) on.z_not_zero r.twice_d_t)

pub normalized_z : (p : Point) → (normalized p).z ≡ 1
unfolding normalized
normalized_z p = refl

-- the sum with a multiple by a digit that is not 0
pub sum_unless_zero : (d : ℕ) (r s p q : Point) → d ≢ 0 → s ≡ p → r ≡ added s q → r ≡ (if d == 0 then p else added p q)
sum_unless_zero d r s p q nz es er =
    let no : (d == 0) ≡ false = grind (arith, nat_tests) in
    rw (no, er, es) refl
