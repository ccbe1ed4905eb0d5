-- Primes: Euclid's lemma, cancelling, a prime divisor of each number above 1, and primes by their divisors below a bound.
use Rattle.std.proofs.Common.{◌≡◌, ℕ, zero, suc, ◌+◌, ◌-◌, ◌*◌, ◌/◌, ◌%◌, ◌<◌, ◌≤◌, sym, ◌∙◌, ap, subst, arith, ◌⊎◌, inl, inr}
use Rattle.std.proofs.Math.Nat.{mul-add, div-add-mod, mul-mod_right}
use Rattle.std.proofs.Math.Decide.{dec_le, ℕ_discrete}
use Rattle.nw_curve.proofs.Congruence.{Congruent, turned}
use Rattle.nw_curve.proofs.Divisibility.{Divides, divides_itself, divides_difference, divides_multiple, divides_through, divides_from_congruent, congruent_from_divides, divisor_below, common_divisor}

pub record IsPrime (p : ℕ) : Type 0 where
  pub above_one : 1 < p
  pub only : (d : ℕ) → Divides d p → (d ≡ 1) ⊎ (d ≡ p)

-- a prime that divides a product divides a factor
pub euclid : {p : ℕ} → IsPrime p → (a b : ℕ) → Divides p (a * b) → Divides p a ⊎ Divides p b
euclid {p} prime a b h =
    let closed = λ (m k : ℕ) (i : Divides p (m * b)) (j : Divides p ((m + k) * b)). divides_difference {a = m * b} {b = k * b} i (subst (Divides p) (omega arith) j) in
    let c = common_divisor (λ (m : ℕ). Divides p (m * b)) closed (p + a) p a (omega arith) (divides_multiple (divides_itself p) b) h in
    elim (prime.only c.divisor c.first) [
      | inl e ↦ inr (subst (Divides p) (ap (λ (x : ℕ). x * b) e ∙ omega arith) c.holds)
      | inr e ↦ inl (subst (λ (x : ℕ). Divides x a) e c.second)
    ]

cancel_up : {p : ℕ} → IsPrime p → (a x k : ℕ) → ¬ (Divides p a) → Congruent p (a * x) (a * (x + k)) → Congruent p x (x + k)
cancel_up {p} prime a x k n h =
    let d = divides_from_congruent {a = a * x} {k = a * k} (subst (λ (z : ℕ). Congruent p (a * x) z) (mul-add a x k) h) in
    elim (euclid prime a k d) [ inl e ↦ absurd (n e) | inr e ↦ congruent_from_divides x e ]

-- a factor that the prime does not divide can be cancelled
pub cancel : {p : ℕ} → IsPrime p → (a x y : ℕ) → ¬ (Divides p a) → Congruent p (a * x) (a * y) → Congruent p x y
cancel {p} prime a x y n h = elim (dec_le x y) [
  | yes le ↦
      let e : y ≡ x + (y - x) = omega arith in
      subst (Congruent p x) (sym e) (cancel_up prime a x (y - x) n (subst (λ (z : ℕ). Congruent p (a * x) (a * z)) e h))
  | no gt ↦
      let e : x ≡ y + (x - y) = omega arith in
      turned (subst (Congruent p y) (sym e) (cancel_up prime a y (x - y) n (subst (λ (z : ℕ). Congruent p (a * y) (a * z)) e (turned h))))
]

divides_of_remainder : (d n : ℕ) → n % d ≡ 0 → Divides d n
divides_of_remainder d n h = record { quotient = n / d; whole = omega (arith, div-add-mod n d) }

remainder_of_divides : (d n : ℕ) → Divides d n → n % d ≡ 0
remainder_of_divides d n h = ap (λ (k : ℕ). k % d) h.whole ∙ mul-mod_right d h.quotient

-- whether d divides n
pub divides_or_not : (d n : ℕ) → Dec (Divides d n)
divides_or_not d n = elim (ℕ_discrete (n % d) 0) [ yes e ↦ yes (divides_of_remainder d n e) | no ne ↦ no (λ h. ne (remainder_of_divides d n h)) ]

-- a prime that divides neither factor does not divide the product
pub not_product : {p : ℕ} → IsPrime p → {a b : ℕ} → ¬ (Divides p a) → ¬ (Divides p b) → ¬ (Divides p (a * b))
not_product {p} prime {a} {b} m n h = elim (euclid prime a b h) [ inl e ↦ m e | inr e ↦ n e ]

-- a divisor above 1 and below k
record Divisor (n k : ℕ) : Type 0 where
  divisor : ℕ
  above : 1 < divisor
  below : divisor < k
  divides : Divides divisor n

-- whether there is one
divisor_or_not : (n k : ℕ) → Divisor n k ⊎ ((d : ℕ) → 1 < d → d < k → ¬ (Divides d n))
divisor_or_not n zero = inr (λ d a b h. absurd (omega arith))
divisor_or_not n (suc k) = elim (divisor_or_not n k) [
  | inl c ↦ inl (record { divisor = c.divisor; above = c.above; below = omega (arith, c.below); divides = c.divides })
  | inr none ↦ elim (dec_le 2 k) [
    | no small ↦ inr (λ d a b h. absurd (omega arith))
    | yes large ↦ elim (ℕ_discrete (n % k) 0) [
      | yes e ↦ inl (record { divisor = k; above = large; below = omega arith; divides = divides_of_remainder k n e })
      | no ne ↦ inr (λ d a b h. elim (ℕ_discrete d k) [
        | yes same ↦ ne (remainder_of_divides k n (subst (λ (x : ℕ). Divides x n) same h))
        | no other ↦ none d a (omega arith) h
      ])
    ]
  ]
]

pub record PrimeDivisor (n : ℕ) : Type 0 where
  pub divisor : ℕ
  pub is_prime : IsPrime divisor
  pub divides : Divides divisor n

prime_divisor_within : (fuel n : ℕ) → n ≤ fuel → 1 < n → PrimeDivisor n
prime_divisor_within zero n f h = absurd (omega arith)
prime_divisor_within (suc fuel) n f h = elim (divisor_or_not n n) [
  | inl c ↦
      let r = prime_divisor_within fuel c.divisor (omega (arith, c.below)) c.above in
      record { divisor = r.divisor; is_prime = r.is_prime; divides = divides_through r.divides c.divides }
  | inr none ↦ record { divisor = n; is_prime = record { above_one = h; only = λ d e. only_two n h none d e }; divides = divides_itself n }
]
  where
    only_two : (n : ℕ) → 1 < n → ((d : ℕ) → 1 < d → d < n → ¬ (Divides d n)) → (d : ℕ) → Divides d n → (d ≡ 1) ⊎ (d ≡ n)
    only_two n h none d e =
        let below = divisor_below e (omega arith) in
        elim (ℕ_discrete d n) [
          | yes same ↦ inr same
          | no other ↦ elim (dec_le 2 d) [
            | yes large ↦ absurd (none d large (omega arith) e)
            | no small ↦ elim (ℕ_discrete d 1) [
              | yes one ↦ inl one
              | no not_one ↦
                  let none_left : d ≡ 0 = omega arith in
                  absurd (omega (arith, e.whole ∙ ap (λ (x : ℕ). x * e.quotient) none_left))
            ]
          ]
        ]

-- each number above 1 has a prime divisor
pub prime_divisor : (n : ℕ) → 1 < n → PrimeDivisor n
prime_divisor n h = prime_divisor_within n n (omega arith) h
