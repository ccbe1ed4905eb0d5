-- Divisors, with their quotients; what congruence says of them; and a common divisor of two numbers that a closed property keeps (Euclid).
use Rattle.std.proofs.Common.{◌≡◌, ℕ, zero, suc, ◌+◌, ◌-◌, ◌*◌, ◌/◌, ◌%◌, ◌<◌, ◌≤◌, sym, ◌∙◌, ap, subst, arith}
use Rattle.std.proofs.Math.Nat.{mul_assoc, mul-sub, div-add-mod, zero-mod, mul-mod_right, add-mul-mod_self_left}
use Rattle.std.proofs.Math.Decide.{dec_le}
use Rattle.nw_curve.proofs.Congruence.{Congruent}

pub record Divides (d n : ℕ) : Type 0 where
  pub quotient : ℕ
  pub whole : n ≡ d * quotient

pub divides_itself : (n : ℕ) → Divides n n
divides_itself n = record { quotient = 1; whole = omega arith }

pub divides_nothing : (n : ℕ) → Divides n 0
divides_nothing n = record { quotient = 0; whole = omega arith }

pub divides_sum : {d a b : ℕ} → Divides d a → Divides d b → Divides d (a + b)
divides_sum h k = record { quotient = h.quotient + k.quotient; whole = omega arith }

pub divides_difference : {d a b : ℕ} → Divides d a → Divides d (a + b) → Divides d b
divides_difference {d} {a} {b} h k = record { quotient = k.quotient - h.quotient; whole = omega (arith, mul-sub d k.quotient h.quotient, h.whole, k.whole) }

pub divides_multiple : {d a : ℕ} → Divides d a → (b : ℕ) → Divides d (a * b)
divides_multiple {d} {a} h b = record { quotient = h.quotient * b; whole = ap (λ (k : ℕ). k * b) h.whole ∙ mul_assoc d h.quotient b }

pub divides_through : {d a b : ℕ} → Divides d a → Divides a b → Divides d b
divides_through {d} {a} {b} h k = record { quotient = h.quotient * k.quotient; whole = k.whole ∙ (ap (λ (x : ℕ). x * k.quotient) h.whole ∙ mul_assoc d h.quotient k.quotient) }

multiple_above : (d n q : ℕ) → n ≡ d * q → 0 < n → d ≤ n
multiple_above d n zero e h = absurd (omega arith)
multiple_above d n (suc q) e h = omega arith

pub divisor_below : {d n : ℕ} → Divides d n → 0 < n → d ≤ n
divisor_below {d} {n} h k = multiple_above d n h.quotient h.whole k

-- what is congruent to 0 is a multiple
pub divides_from_zero : {n a : ℕ} → Congruent n a 0 → Divides n a
divides_from_zero {n} {a} h = record { quotient = a / n; whole = omega (arith, div-add-mod a n, h.remainders, zero-mod n) }

pub zero_from_divides : {n a : ℕ} → Divides n a → Congruent n a 0
zero_from_divides {n} {a} h = record { remainders = ap (λ (k : ℕ). k % n) h.whole ∙ (mul-mod_right n h.quotient ∙ sym (zero-mod n)) }

-- congruent numbers differ by a multiple
pub divides_from_congruent : {n a k : ℕ} → Congruent n a (a + k) → Divides n k
divides_from_congruent {n} {a} {k} h =
    record { quotient = (a + k) / n - a / n; whole = omega (arith, mul-sub n ((a + k) / n) (a / n), div-add-mod a n, div-add-mod (a + k) n, h.remainders) }

pub congruent_from_divides : {n : ℕ} (a : ℕ) {k : ℕ} → Divides n k → Congruent n a (a + k)
congruent_from_divides {n} a {k} h = record { remainders = sym (ap (λ (x : ℕ). (a + x) % n) h.whole ∙ add-mul-mod_self_left a n h.quotient) }

pub record CommonDivisor (I : ℕ → Type 0) (a b : ℕ) : Type 0 where
  pub divisor : ℕ
  pub holds : I divisor
  pub first : Divides divisor a
  pub second : Divides divisor b

-- a property that differences keep holds of some common divisor, if it holds of both numbers
pub common_divisor : (I : ℕ → Type 0) → ((m k : ℕ) → I m → I (m + k) → I k) → (fuel a b : ℕ) → a + b ≤ fuel → I a → I b → CommonDivisor I a b
common_divisor I closed fuel zero b h i j = record { divisor = b; holds = j; first = divides_nothing b; second = divides_itself b }
common_divisor I closed fuel (suc a) zero h i j = record { divisor = suc a; holds = i; first = divides_itself (suc a); second = divides_nothing (suc a) }
common_divisor I closed zero (suc a) (suc b) h i j = absurd (omega arith)
common_divisor I closed (suc fuel) (suc a) (suc b) h i j = elim (dec_le a b) [
  | yes le ↦
      let e : suc b ≡ suc a + (b - a) = omega arith in
      let c = common_divisor I closed fuel (suc a) (b - a) (omega arith) i (closed (suc a) (b - a) i (subst I e j)) in
      record { divisor = c.divisor; holds = c.holds; first = c.first; second = subst (Divides c.divisor) (sym e) (divides_sum c.first c.second) }
  | no gt ↦
      let e : suc a ≡ suc b + (a - b) = omega arith in
      let c = common_divisor I closed fuel (a - b) (suc b) (omega arith) (closed (suc b) (a - b) j (subst I e i)) j in
      record { divisor = c.divisor; holds = c.holds; first = subst (Divides c.divisor) (sym e) (divides_sum c.second c.first); second = c.second }
]
