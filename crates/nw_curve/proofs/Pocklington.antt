-- Pocklington's test: a number is prime if its predecessor has large prime divisors and a power computes as it should.
use Rattle.std.proofs.Common.{◌≡◌, ℕ, zero, suc, ◌+◌, ◌*◌, ◌/◌, ◌%◌, ◌^◌, ◌<◌, ◌≤◌, Bool, true, false, ◌≢◌, refl, sym, ◌∙◌, ap, subst, arith, ◌⊎◌, inl, inr, le_refl, lt_of_lt_of_le, suc-le-suc}
use Rattle.std.proofs.Math.Nat.{mul_assoc, mul_comm, pow-suc, pow-zero, mul-zero, mul-le-mul, mul-suc, div-add-mod, mul-mod_right}
use Rattle.std.proofs.Math.Decide.{dec_le, ℕ_discrete}
use Rattle.std.proofs.lemmas.Nat.{pow-add}
use Rattle.nw_curve.proofs.Congruence.{Congruent, equal, itself, turned, chained, sums, products, remainder}
use Rattle.nw_curve.proofs.Divisibility.{Divides, divides_multiple, divides_through, divisor_below, zero_from_divides, divides_from_zero, congruent_from_divides, common_divisor}
use Rattle.nw_curve.proofs.Primes.{IsPrime, prime_divisor, euclid}
use Rattle.nw_curve.proofs.Fermat.{fermat}

-- a to the power e modulo n, for an e of so many bits
abbrev pub power_modulo : ℕ → ℕ → ℕ → ℕ → ℕ
power_modulo n a zero e = 1
power_modulo n a (suc bits) e =
    let h = power_modulo n a bits (e / 2) in
    let s = h * h % n in
    elim (e % 2) [ zero ↦ s | suc _ ↦ s * a % n ]

one_bit : (n a s e q r : ℕ) → Congruent n s (a ^ (q + q)) → e ≡ 2 * q + r → r < 2 → Congruent n (elim r [ zero ↦ s | suc _ ↦ s * a % n ]) (a ^ e)
one_bit n a s e q zero h is below = chained h (equal (ap (λ (k : ℕ). a ^ k) (omega arith)))
one_bit n a s e q (suc r) h is below =
    let same : suc (q + q) ≡ e = omega arith in
    chained remainder (chained (products h (itself {a = a})) (equal (sym (pow-suc a (q + q)) ∙ ap (λ (k : ℕ). a ^ k) same)))

pub power_modulo_is : (n a bits e : ℕ) → e < 2 ^ bits → Congruent n (power_modulo n a bits e) (a ^ e)
power_modulo_is n a zero e h =
    let z : e ≡ 0 = omega arith in
    equal (rw z (sym (pow-zero a)))
power_modulo_is n a (suc bits) e h =
    let q = e / 2 in
    let p = power_modulo n a bits q in
    let ih = power_modulo_is n a bits q (omega arith) in
    one_bit n a (p * p % n) e q (e % 2) (chained remainder (chained (products ih ih) (equal (sym (pow-add a q q))))) (omega arith) (omega arith)

pub pow_pow : (a m n : ℕ) → (a ^ m) ^ n ≡ a ^ (m * n)
pow_pow a m zero = pow-zero (a ^ m) ∙ sym (ap (λ (x : ℕ). a ^ x) (mul-zero m) ∙ pow-zero a)
pow_pow a m (suc n) = rw (pow-suc, pow_pow a m n, mul-suc, pow-add) refl

pub powers : {n a b : ℕ} → Congruent n a b → (k : ℕ) → Congruent n (a ^ k) (b ^ k)
powers {n} {a} {b} h zero = equal (pow-zero a ∙ sym (pow-zero b))
powers {n} {a} {b} h (suc k) = chained (equal (pow-suc a k)) (chained (products (powers h k) h) (equal (sym (pow-suc b k))))

-- congruent modulo n, so modulo each divisor of n
to_divisor : {r n a b : ℕ} → Divides r n → Congruent n a b → Congruent r a b
to_divisor {r} {n} {a} {b} d h =
    let down = λ (x : ℕ). subst (Congruent r (x % n)) {y = x} (omega (arith, div-add-mod x n)) (congruent_from_divides (x % n) (divides_multiple d (x / n))) in
    chained (turned (down a)) (chained (equal h.remainders) (down b))

pub one_not_zero : {r : ℕ} → IsPrime r → ¬ (Congruent r 1 0)
one_not_zero prime h =
    let le = divisor_below (divides_from_zero h) (omega arith) in
    omega (arith, le, prime.above_one)

pub zero_power : (k : ℕ) → 0 < k → 0 ^ k ≡ 0
zero_power zero h = absurd (omega arith)
zero_power (suc k) h = pow-suc 0 k ∙ mul-zero (0 ^ k)

-- what has a power 1 is not divided
not_divided : {r : ℕ} → IsPrime r → (x k : ℕ) → 0 < k → Congruent r (x ^ k) 1 → ¬ (Divides r x)
not_divided prime x k pos h d = one_not_zero prime (chained (turned h) (chained (powers (zero_from_divides d) k) (equal (zero_power k pos))))

orders_differ : (r x m k : ℕ) → Congruent r (x ^ m) 1 → Congruent r (x ^ (m + k)) 1 → Congruent r (x ^ k) 1
orders_differ r x m k h j = chained (chained (equal (omega arith)) (products (turned h) (itself {a = x ^ k}))) (chained (equal (sym (pow-add x m k))) j)

-- a prime q divides r - 1 for each prime divisor r of n, where q divides n - 1, a^(n - 1) is 1, and a^((n - 1) / q) - 1 has an inverse, w
pub divides_predecessor : (n q k a w : ℕ) → IsPrime q → n ≡ suc (k * q) → Congruent n (a ^ (k * q)) 1 → Congruent n (w * (a ^ k + k * q)) 1
    → (r : ℕ) → IsPrime (suc r) → Divides (suc r) n → Divides q r
divides_predecessor n q k a w prime is one inverse r rp d =
    let x = a ^ k in
    let order = chained (equal (pow_pow a k q)) (to_divisor d one) in
    let little = fermat r rp x (not_divided rp x q (omega (arith, prime.above_one)) order) in
    let c = common_divisor (λ (m : ℕ). Congruent (suc r) (x ^ m) 1) (orders_differ (suc r) x) (q + r) q r (omega arith) order little in
    elim (prime.only c.divisor c.first) [
      | inl e ↦
          let x_one : Congruent (suc r) x 1 = chained (equal (sym (rw (pow-suc x 0, pow-zero x) (omega arith)))) (subst (λ (m : ℕ). Congruent (suc r) (x ^ m) 1) e c.holds) in
          let all_zero : Congruent (suc r) (x + k * q) 0 = chained (sums x_one (itself {a = k * q})) (chained (equal (sym (is ∙ omega arith))) (zero_from_divides d)) in
          absurd (one_not_zero rp (chained (turned (to_divisor d inverse)) (chained (products (itself {a = w}) all_zero) (equal (omega arith)))))
      | inr e ↦ subst (λ (m : ℕ). Divides m r) e c.second
    ]

two_divisors : (n d s : ℕ) → 0 < n → n ≡ d * s → ((r : ℕ) → IsPrime r → Divides r n → n < r * r) → d ≢ 1 → s ≢ 1 → ⊥
two_divisors n zero s pos e large ne me = omega arith
two_divisors n (suc d) zero pos e large ne me = omega (arith, mul-zero (suc d))
two_divisors n (suc d) (suc s) pos e large ne me =
    let q = prime_divisor (suc d) (omega arith) in
    let r = prime_divisor (suc s) (omega arith) in
    let dd : Divides (suc d) n = record { quotient = suc s; whole = e } in
    let ds : Divides (suc s) n = record { quotient = suc d; whole = e ∙ mul_comm (suc d) (suc s) } in
    let a = large q.divisor q.is_prime (divides_through q.divides dd) in
    let b = large r.divisor r.is_prime (divides_through r.divides ds) in
    let below = mul-le-mul (divisor_below q.divides (omega arith)) (divisor_below r.divides (omega arith)) in
    elim (dec_le q.divisor r.divisor) [
      | yes le ↦ let m = mul-le-mul (le_refl q.divisor) le in omega (arith, a, below, m, e)
      | no gt ↦
          let le : r.divisor ≤ q.divisor = omega arith in
          let m = mul-le-mul le (le_refl r.divisor) in
          omega (arith, b, below, m, e)
    ]

divisor_cases : (n : ℕ) → 1 < n → ((r : ℕ) → IsPrime r → Divides r n → n < r * r) → (d : ℕ) → Divides d n → (d ≡ 1) ⊎ (d ≡ n)
divisor_cases n h large d e = elim (ℕ_discrete d 1) [
  | yes one ↦ inl one
  | no not_one ↦ elim (ℕ_discrete e.quotient 1) [
    | yes one ↦ inr (sym (e.whole ∙ (ap (λ (x : ℕ). d * x) one ∙ omega arith)))
    | no other ↦ absurd (two_divisors n d e.quotient (omega arith) e.whole large not_one other)
  ]
]

-- a number is prime if each prime divisor is above its square root
pub prime_by_root : (n : ℕ) → 1 < n → ((r : ℕ) → IsPrime r → Divides r n → n < r * r) → IsPrime n
prime_by_root n h large = record { above_one = h; only = divisor_cases n h large }

above_predecessor : (n q m r : ℕ) → m ≤ r → n < suc m * suc m → n < suc r * suc r
above_predecessor n q m r le h = lt_of_lt_of_le h (mul-le-mul (suc-le-suc le) (suc-le-suc le))

predecessor_positive : {r : ℕ} → IsPrime (suc r) → 0 < r
predecessor_positive h = omega (arith, h.above_one)

-- what is needed of a prime divisor q of n - 1 = k q
pub record Witness (n q : ℕ) : Type 0 where
  pub is_prime : IsPrime q
  pub divides : (r : ℕ) → IsPrime (suc r) → Divides (suc r) n → Divides q r

-- it is there if the powers compute as they should
pub witness : (n q k a w bits : ℕ) → IsPrime q → n ≡ suc (k * q) → k * q < 2 ^ bits → k < 2 ^ bits → power_modulo n a bits (k * q) % n ≡ 1 % n
    → w * (power_modulo n a bits k + k * q) % n ≡ 1 % n → Witness n q
witness n q k a w bits prime is b c one inverse = record {
  is_prime = prime;
  divides = divides_predecessor n q k a w prime is
      (chained (turned (power_modulo_is n a bits (k * q) b)) (record { remainders = one }))
      (chained (products (itself {a = w}) (sums (turned (power_modulo_is n a bits k c)) (itself {a = k * q}))) (record { remainders = inverse }));
}

one_with_root : (n q : ℕ) → Witness n q → n < suc q * suc q → (r : ℕ) → IsPrime r → Divides r n → n < r * r
one_with_root n q w h zero rp d = let o = rp.above_one in absurd (omega arith)
one_with_root n q w h (suc r) rp d = above_predecessor n q q r (divisor_below (w.divides r rp d) (predecessor_positive rp)) h

-- a number is prime if a witness is above its square root
pub prime_by_one : (n q : ℕ) → 1 < n → Witness n q → n < suc q * suc q → IsPrime n
prime_by_one n q o w h = prime_by_root n o (one_with_root n q w h)

both_divide : (m p q : ℕ) → IsPrime p → IsPrime q → p ≢ q → Divides p m → Divides q m → Divides (q * p) m
both_divide m p q pp qp ne a b = elim (euclid pp q b.quotient (subst (Divides p) b.whole a)) [
  | inl e ↦ elim (qp.only p e) [ inl one ↦ let o = pp.above_one in absurd (omega arith) | inr same ↦ absurd (ne same) ]
  | inr e ↦ record { quotient = e.quotient; whole = b.whole ∙ (ap (λ (x : ℕ). q * x) e.whole ∙ sym (mul_assoc q p e.quotient)) }
]

two_with_root : (n p q : ℕ) → Witness n p → Witness n q → p ≢ q → n < suc (q * p) * suc (q * p) → (r : ℕ) → IsPrime r → Divides r n → n < r * r
two_with_root n p q v w ne h zero rp d = let o = rp.above_one in absurd (omega arith)
two_with_root n p q v w ne h (suc r) rp d =
    above_predecessor n q (q * p) r (divisor_below (both_divide r p q v.is_prime w.is_prime ne (v.divides r rp d) (w.divides r rp d)) (predecessor_positive rp)) h

-- a number is prime if the product of two witnesses is above its square root
pub prime_by_two : (n p q : ℕ) → 1 < n → Witness n p → Witness n q → p ≢ q → n < suc (q * p) * suc (q * p) → IsPrime n
prime_by_two n p q o v w ne h = prime_by_root n o (two_with_root n p q v w ne h)

-- whether none of 2 to k + 1 divides n
abbrev pub no_divisor : ℕ → ℕ → Bool
no_divisor n zero = true
no_divisor n (suc k) = elim (n % suc (suc k)) [ zero ↦ false | suc _ ↦ no_divisor n k ]

no_divisor_last : (n k r : ℕ) → elim r [ zero ↦ false | suc _ ↦ no_divisor n k ] ≡ true → (r ≢ 0) × (no_divisor n k ≡ true)
no_divisor_last n k zero h = absurd (cc)
no_divisor_last n k (suc r) h = (omega arith, h)

no_divisor_is : (n k d : ℕ) → no_divisor n k ≡ true → 1 < d → d ≤ suc k → ¬ (Divides d n)
no_divisor_is n zero d h a b e = omega arith
no_divisor_is n (suc k) d h a b e =
    let c = no_divisor_last n k (n % suc (suc k)) h in
    elim (ℕ_discrete d (suc (suc k))) [
      | yes same ↦ c.0 (ap (λ (x : ℕ). n % x) (sym same) ∙ (ap (λ (x : ℕ). x % d) e.whole ∙ mul-mod_right d e.quotient))
      | no other ↦ no_divisor_is n k d c.1 a (omega arith) e
    ]

trial_root : (n k : ℕ) → no_divisor n k ≡ true → n < suc (suc k) * suc (suc k) → (r : ℕ) → IsPrime r → Divides r n → n < r * r
trial_root n k h b r rp d = elim (dec_le r (suc k)) [
  | yes le ↦ absurd (no_divisor_is n k r h rp.above_one le d)
  | no gt ↦ let le : suc (suc k) ≤ r = omega arith in lt_of_lt_of_le b (mul-le-mul le le)
]

-- a number is prime if no number up to its square root divides it
pub prime_by_trial : (n k : ℕ) → 1 < n → no_divisor n k ≡ true → n < suc (suc k) * suc (suc k) → IsPrime n
prime_by_trial n k o h b = prime_by_root n o (trial_root n k h b)
