-- Euler's criterion, one way: what has the power -1 to half the order is no square.
use Rattle.std.proofs.Common.{◌≡◌, ℕ, suc, ◌+◌, ◌*◌, ◌%◌, ◌^◌, ◌<◌, sym, ◌∙◌, arith}
use Rattle.std.proofs.lemmas.Nat.{pow-add, mul-pow}
use Rattle.nw_curve.proofs.Congruence.{Congruent, equal, itself, turned, chained, sums, products}
use Rattle.nw_curve.proofs.Divisibility.{Divides, divides_from_zero, zero_from_divides, divisor_below, divides_itself}
use Rattle.nw_curve.proofs.Primes.{IsPrime, divides_or_not}
use Rattle.nw_curve.proofs.Fermat.{fermat}
use Rattle.nw_curve.proofs.Pocklington.{power_modulo, power_modulo_is, powers, zero_power}

square_power : (u h : ℕ) → (u * u) ^ h ≡ u ^ (h + h)
square_power u h = mul-pow u u h ∙ sym (pow-add u h h)

-- -1 is neither 0 nor 1
minus_one_not_zero : (m : ℕ) → IsPrime (suc m) → ¬ (Congruent (suc m) m 0)
minus_one_not_zero m prime h = let o = prime.above_one in let b = divisor_below (divides_from_zero h) (omega arith) in omega arith

minus_one_not_one : (m : ℕ) → IsPrime (suc m) → 1 < m → ¬ (Congruent (suc m) m 1)
minus_one_not_one m prime l h =
    let zero_two : Congruent (suc m) 0 2 = chained (turned (zero_from_divides (divides_itself (suc m)))) (chained (equal (omega arith)) (sums (itself {a = 1}) h)) in
    let b = divisor_below (divides_from_zero (turned zero_two)) (omega arith) in
    omega arith

-- u^2 = d v^2 modulo the prime 2 h + 1 only if it divides v, where d^h is -1
pub not_square_times : (h d bits : ℕ) → IsPrime (suc (h + h)) → 1 < h → h < 2 ^ bits → power_modulo (suc (h + h)) d bits h % suc (h + h) ≡ (h + h) % suc (h + h)
    → (u v : ℕ) → ¬ (Divides (suc (h + h)) v) → ¬ (Congruent (suc (h + h)) (u * u) (d * (v * v)))
not_square_times h d bits prime large within minus u v nv same =
    let n = suc (h + h) in
    let dh : Congruent n (d ^ h) (h + h) = chained (turned (power_modulo_is n d bits h within)) (record { remainders = minus }) in
    let vh : Congruent n ((v * v) ^ h) 1 = chained (equal (square_power v h)) (fermat (h + h) prime v nv) in
    let right : Congruent n ((u * u) ^ h) (h + h) = chained (powers same h) (chained (equal (mul-pow d (v * v) h)) (chained (products dh vh) (equal (omega arith)))) in
    let left : Congruent n (u ^ (h + h)) (h + h) = chained (equal (sym (square_power u h))) right in
    elim (divides_or_not n u) [
      | yes e ↦ minus_one_not_zero (h + h) prime (chained (turned left) (chained (powers (zero_from_divides e) (h + h)) (equal (zero_power (h + h) (omega arith)))))
      | no ne ↦ minus_one_not_one (h + h) prime (omega arith) (chained (turned left) (fermat (h + h) prime u ne))
    ]
