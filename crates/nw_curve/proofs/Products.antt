-- Products modulo the prime.
use Rattle.std.proofs.Common.{◌≡◌, ℕ, ◌+◌, ◌*◌, ◌%◌, sym, ◌∙◌, ap, arith}
use Rattle.std.proofs.Math.Nat.{mod-mod}
use Rattle.std.proofs.lemmas.Nat.{mul-mod_first, mul-mod_second}
use Rattle.nw_curve.specs.Field.{prime, times}
use Rattle.nw_curve.specs.Curve.{twice}

-- a product of three is the same in both orders of multiplication
pub times_times : (a b c : ℕ) → times (times a b) c ≡ times a (times b c)
times_times a b c = mul-mod_first (a * b) c prime ∙ (ap (λ (n : ℕ). n % prime) (omega arith) ∙ sym (mul-mod_second a (b * c) prime))

-- doubling either factor is the same
pub twice_times : (a b : ℕ) → times (twice a) b ≡ times a (twice b)
twice_times a b = mul-mod_first (a + a) b prime ∙ (ap (λ (n : ℕ). n % prime) (omega arith) ∙ sym (mul-mod_second a (b + b) prime))

-- a factor 1 can be left out
pub twice_one : (a b : ℕ) → b ≡ 1 → times (twice a) b ≡ twice a
twice_one a b one =
    rw one (ap (λ (n : ℕ). n % prime) (omega arith) ∙ mod-mod (a + a) prime)
