-- Fermat's little theorem, by the binomial coefficients of a prime.
use Rattle.std.proofs.Common.{◌≡◌, ℕ, zero, suc, ◌+◌, ◌*◌, ◌^◌, ◌<◌, refl, sym, ◌∙◌, subst, arith, inl, inr}
use Rattle.std.proofs.Math.Nat.{mul_comm, pow-suc, pow-zero, mul-zero}
use Rattle.nw_curve.proofs.Congruence.{Congruent, equal, itself, chained, sums, products}
use Rattle.nw_curve.proofs.Divisibility.{Divides, divides_itself, divides_multiple, divisor_below, zero_from_divides}
use Rattle.nw_curve.proofs.Primes.{IsPrime, euclid, cancel}

-- binomial coefficients
abbrev choose : ℕ → ℕ → ℕ
choose n zero = 1
choose zero (suc k) = 0
choose (suc n) (suc k) = choose n k + choose n (suc k)

above_zero : (n k : ℕ) → n < k → choose n k ≡ 0
above_zero n zero h = absurd (omega arith)
above_zero zero (suc k) h = refl
above_zero (suc n) (suc k) h = rw (above_zero n k (omega arith), above_zero n (suc k) (omega arith)) refl

top_one : (n : ℕ) → choose n n ≡ 1
top_one zero = refl
top_one (suc n) = rw (top_one n, above_zero n (suc n) (omega arith)) refl

choose_absorbs : (n k : ℕ) → suc k * choose (suc n) (suc k) ≡ suc n * choose n k
choose_absorbs zero zero = refl
choose_absorbs zero (suc k) = omega arith
choose_absorbs (suc n) zero = omega (arith, choose_absorbs n 0)
choose_absorbs (suc n) (suc k) =
    let x = choose n k in
    let y = choose n (suc k) in
    let z = choose n (suc (suc k)) in
    omega (arith, choose_absorbs n k, choose_absorbs n (suc k))

-- the first m terms of the expansion of (1 + a)^n
abbrev expansion : ℕ → ℕ → ℕ → ℕ
expansion n a zero = 0
expansion n a (suc m) = expansion n a m + choose n m * a ^ m

pascal : (n a m : ℕ) → expansion (suc n) a (suc m) ≡ expansion n a (suc m) + a * expansion n a m
pascal n a zero = omega arith
pascal n a (suc m) =
    let p = a ^ m in
    rw (pascal n a m, pow-suc a m) (omega arith)

binomial : (n a : ℕ) → suc a ^ n ≡ expansion n a (suc n)
binomial zero a = rw (pow-zero (suc a), pow-zero a) refl
binomial (suc n) a = rw (pow-suc (suc a) n, binomial n a, pascal n a (suc n), above_zero n (suc n) (omega arith)) (omega arith)

-- a prime divides its binomial coefficients but the first and the last
middle : (n : ℕ) → IsPrime (suc n) → (k : ℕ) → suc k < suc n → Congruent (suc n) (choose (suc n) (suc k)) 0
middle n prime k h =
    let d = subst (Divides (suc n)) (sym (choose_absorbs n k)) (divides_multiple (divides_itself (suc n)) (choose n k)) in
    elim (euclid prime (suc k) (choose (suc n) (suc k)) d) [
      | inl e ↦ let le = divisor_below e (omega arith) in absurd (omega arith)
      | inr e ↦ zero_from_divides e
    ]

expansion_one : (n : ℕ) → IsPrime (suc n) → (a m : ℕ) → m < suc n → Congruent (suc n) (expansion (suc n) a (suc m)) 1
expansion_one n prime a zero h = equal (rw pow-zero refl)
expansion_one n prime a (suc m) h =
    chained (sums (expansion_one n prime a m (omega arith)) (products (middle n prime m h) (itself {a = a ^ suc m}))) (equal (omega arith))

next_power : (n : ℕ) → IsPrime (suc n) → (a : ℕ) → Congruent (suc n) (suc a ^ suc n) (suc (a ^ suc n))
next_power n prime a =
    chained (equal (binomial (suc n) a)) (chained (sums (expansion_one n prime a n (omega arith)) (itself {a = choose (suc n) (suc n) * a ^ suc n}))
    (equal (rw (top_one (suc n)) (omega arith))))

all_powers : (n : ℕ) → IsPrime (suc n) → (a : ℕ) → Congruent (suc n) (a ^ suc n) a
all_powers n prime zero = equal (pow-suc 0 n ∙ mul-zero (0 ^ n))
all_powers n prime (suc a) = chained (next_power n prime a) (chained (equal (omega arith)) (chained (sums (itself {a = 1}) (all_powers n prime a)) (equal (omega arith))))

-- a^(p - 1) is 1 modulo p, unless p divides a
pub fermat : (n : ℕ) → IsPrime (suc n) → (a : ℕ) → ¬ (Divides (suc n) a) → Congruent (suc n) (a ^ n) 1
fermat n prime a h = cancel prime a (a ^ n) 1 h (chained (equal (mul_comm a (a ^ n) ∙ sym (pow-suc a n))) (chained (all_powers n prime a) (equal (omega arith))))
