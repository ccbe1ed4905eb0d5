-- Numbers of four digits to base 2^64, modulo the prime.
use Rattle.std.proofs.Common.{◌≡◌, ℕ, ◌+◌, ◌-◌, ◌*◌, ◌/◌, ◌%◌, ◌^◌, ◌<◌, refl, sym, ◌∙◌, ap, arith}
use Rattle.std.proofs.Math.Nat.{add-mul-mod_self_right, add-mod, mod-eq_of_lt, mod-lt, div-add-mod'}
use Rattle.std.proofs.lemmas.Nat.{mul-mod}
use Rattle.nw_curve.specs.Field.{prime}

-- 2^256 is 38 more than twice the prime
pub wraps : 2 ^ 256 ≡ 2 * prime + 38
unfolding prime
wraps = refl

-- numbers that differ by a multiple of the prime have the same remainder
pub same : (a b q : ℕ) → a ≡ b + q * prime → a % prime ≡ b % prime
same a b q e = ap (λ (n : ℕ). n % prime) e ∙ add-mul-mod_self_right b q prime

-- q times 2^256 is 38 q more than 2 q times the prime
wraps_times : (q : ℕ) → q * 2 ^ 256 ≡ 2 * q * prime + 38 * q
wraps_times q = rw wraps (omega arith)

-- a carry q over 2^256 counts as 38 q
pub carried : (a b q : ℕ) → b + q * 2 ^ 256 ≡ a + 38 * q → a % prime ≡ b % prime
carried a b q e =
    let w = wraps_times q in
    same a b (2 * q) (omega arith)

-- a sum whose carry was added as 38 q has the right remainder
pub sum_carried : (s r t q : ℕ) → r % prime ≡ (t + 38 * q) % prime → t + q * 2 ^ 256 ≡ s → r % prime ≡ s % prime
sum_carried s r t q er e = er ∙ sym (carried s (t + 38 * q) q (omega arith))

-- the lower half plus 38 times the upper half has the remainder of the number
pub halves : (l h s q r : ℕ) → r % prime ≡ (s + 38 * q) % prime → s + 2 ^ 256 * q ≡ 38 * h + l → r % prime ≡ (l + 2 ^ 256 * h) % prime
halves l h s q r er e = sum_carried (38 * h + l) r s q er (omega arith) ∙ sym (carried (l + 2 ^ 256 * h) (38 * h + l) h (omega arith))

-- the part q from 2^255 on counts as 19 q
pub folds : (a r q : ℕ) → a + 19 * q ≡ r + 2 ^ 255 * q → r % prime ≡ a % prime
unfolding prime
folds a r q e = sym (same a r q (omega (arith, e)))

-- `difference_borrowed` without remainders
whole_difference : (r d a b q i j m p : ℕ) → r + 38 * q ≡ i * p + m → d ≡ j * p + m → d + b ≡ a + 2 * q * p + 38 * q → r + b + j * p ≡ a + (i + 2 * q) * p
whole_difference r d a b q i j m p er ed e = omega arith

-- a difference whose borrow was subtracted as 38 q has the right remainder
pub difference_borrowed : (r d a b q : ℕ) → (r + 38 * q) % prime ≡ d % prime → d + b ≡ a + q * 2 ^ 256 → (r + b) % prime ≡ a % prime
difference_borrowed r d a b q er e =
    let w = wraps_times q in
    let i = (r + 38 * q) / prime in
    let j = d / prime in
    let s : r + 38 * q ≡ i * prime + d % prime = sym (div-add-mod' (r + 38 * q) prime) ∙ ap (λ (n : ℕ). i * prime + n) er in
    let whole = whole_difference r d a b q i j (d % prime) prime s (sym (div-add-mod' d prime)) (omega arith) in
    sym (add-mul-mod_self_right (r + b) j prime) ∙ same (r + b + j * prime) a (i + 2 * q) whole

-- a number below the prime that differs from n by a multiple of the prime is n's remainder
pub left_over : (n r q : ℕ) → r < prime → n ≡ r + q * prime → r ≡ n % prime
left_over n r q h e = sym (same n r q e ∙ mod-eq_of_lt h)

-- r is the sum of x and y modulo the prime, if a and b have the remainders x and y
pub plus_is : (r a b x y : ℕ) → r % prime ≡ (a + b) % prime → a % prime ≡ x → b % prime ≡ y → r % prime ≡ (x + y) % prime
plus_is r a b x y er ex ey = rw (← ex, ← ey, ← add-mod) er

-- r is the product of x and y modulo the prime
pub times_is : (r l a b x y : ℕ) → r % prime ≡ l % prime → l ≡ a * b → a % prime ≡ x → b % prime ≡ y → r % prime ≡ (x * y) % prime
times_is r l a b x y er el ex ey = rw (← ex, ← ey, ← mul-mod) (er ∙ ap (λ (n : ℕ). n % prime) el)

-- `minus_is` without remainders
minus_whole : (r a b i j k m y p : ℕ) → r + b ≡ i * p + m → a ≡ j * p + m → b ≡ k * p + y → y < p → r + (k + 1) * p ≡ m + (p - y) + i * p
minus_whole r a b i j k m y p er ea eb h = omega arith

prime_pos : 0 < prime
prime_pos = omega (arith, wraps)

-- r is the difference of x and y modulo the prime
pub minus_is : (r a b x y : ℕ) → (r + b) % prime ≡ a % prime → a % prime ≡ x → b % prime ≡ y → r % prime ≡ (x + (prime - y)) % prime
minus_is r a b x y er ex ey =
    let i = (r + b) / prime in
    let s : r + b ≡ i * prime + a % prime = sym (div-add-mod' (r + b) prime) ∙ ap (λ (n : ℕ). i * prime + n) er in
    let whole = minus_whole r a b i (a / prime) (b / prime) (a % prime) (b % prime) prime s (sym (div-add-mod' a prime)) (sym (div-add-mod' b prime)) (mod-lt b prime_pos) in
    rw (← ex, ← ey) (sym (add-mul-mod_self_right r (b / prime + 1) prime) ∙ same (r + (b / prime + 1) * prime) (a % prime + (prime - b % prime)) i whole)
