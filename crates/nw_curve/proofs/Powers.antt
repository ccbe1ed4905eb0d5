-- Powers modulo the prime.
use Rattle.std.proofs.Common.{◌≡◌, ℕ, suc, ◌+◌, ◌-◌, ◌*◌, ◌%◌, ◌^◌, ◌<◌, sym, ◌∙◌, ap, arith}
use Rattle.std.proofs.Math.Nat.{pow-suc, pow-zero}
use Rattle.std.proofs.lemmas.Nat.{mul-mod, mul-mod_first, pow-mod, pow-add, pow_pos}
use Rattle.nw_curve.specs.Field.{prime, times, power}
use Rattle.nw_curve.proofs.Pocklington.{pow_pow}

-- a product of powers is the power of the sum
pub power_sum : (a m n : ℕ) → times (power a m) (power a n) ≡ power a (m + n)
power_sum a m n = sym (mul-mod (a ^ m) (a ^ n) prime) ∙ ap (λ (x : ℕ). x % prime) (sym (pow-add a m n))

one : (a : ℕ) → a ^ 1 ≡ a
one a = rw (pow-suc, pow-zero) (omega arith)

-- one more factor
power_next : (a m : ℕ) → times (power a m) a ≡ power a (m + 1)
power_next a m =
    mul-mod_first (a ^ m) a prime ∙ ap (λ (x : ℕ). x % prime) (sym (pow-add a m 1 ∙ ap (λ (x : ℕ). a ^ m * x) (one a)))

-- a power of a power, modulo the prime
power_power : (a m n : ℕ) → power (power a m) n ≡ power a (m * n)
power_power a m n = pow-mod (a ^ m) n prime ∙ ap (λ (x : ℕ). x % prime) (pow_pow a m n)

-- one more squaring doubles the exponent
pub squared_once : (a d s r : ℕ) → s ≡ power a (2 ^ d) → r ≡ times s s → r ≡ power a (2 ^ (d + 1))
squared_once a d s r es er =
    let e : 2 ^ (d + 1) ≡ 2 ^ d + 2 ^ d = rw (pow-add 2 d 1) (omega arith) in
    rw (er, es, power_sum, e)

-- the n-th power of a^m, times a
pub power_step : (a m n x s r : ℕ) → x ≡ power a m → s ≡ power x n → r ≡ times s a → r ≡ power a (m * n + 1)
power_step a m n x s r ex es er = rw (er, es, ex, power_power, power_next)

-- the n-th power of a^m, times a^k
pub power_join : (a m n k x y s r : ℕ) → x ≡ power a m → y ≡ power a k → s ≡ power x n → r ≡ times s y → r ≡ power a (m * n + k)
power_join a m n k x y s r ex ey es er = rw (er, es, ex, ey, power_power, power_sum)

-- the n-th power of a, times a
pub power_first : (a n s r : ℕ) → s ≡ power a n → r ≡ times s a → r ≡ power a (n + 1)
power_first a n s r es er = rw (er, es, power_next)

ones_sum : (x y : ℕ) → x * suc y + y ≡ suc x * suc y - 1
ones_sum x y = omega arith

above : (x : ℕ) → 0 < x → suc (x - 1) ≡ x
above x h = omega arith

-- m ones in binary, shifted by n, and n ones below them are m + n ones
pub ones_join : (m n : ℕ) → (2 ^ m - 1) * 2 ^ n + (2 ^ n - 1) ≡ 2 ^ (m + n) - 1
ones_join m n =
    let e = ones_sum (2 ^ m - 1) (2 ^ n - 1) in
    rw (above (2 ^ m) (pow_pos m), above (2 ^ n) (pow_pos n), ← pow-add) at e
