-- Bits and bytes of a number with two halves.
use Rattle.std.proofs.Common.{◌≡◌, ℕ, zero, suc, ◌+◌, ◌-◌, ◌*◌, ◌/◌, ◌%◌, ◌^◌, ◌<◌, ◌≤◌, List, ◌++◌, refl, sym, ◌∙◌, ap, arith}
use Rattle.std.proofs.Math.Nat.{pow-suc, pow-zero, div-one, add-mul-div_left, add-mul-mod_self_right, div-div-eq-div-mul, div-eq_of_lt, one-le-pow}
use Rattle.std.proofs.lemmas.Nat.{pow-add}
use Rattle.std.specs.Int.{bit_at, byte_at, bytes_low_first}

pow_above : (b k : ℕ) → 0 < b → 0 < b ^ k
pow_above b k h = one-le-pow k b h

-- digit i to base b does not depend on the digits above it
low_digit : (b i j a h : ℕ) → 0 < b → (a + b ^ (i + suc j) * h) / b ^ i % b ≡ a / b ^ i % b
low_digit b i j a h pos =
    let p : b ^ (i + suc j) * h ≡ b ^ i * (b ^ j * h * b) = rw (pow-add b i (suc j), pow-suc) (omega arith) in
    rw p (ap (λ (n : ℕ). n % b) (add-mul-div_left a (b ^ j * h * b) (pow_above b i pos)) ∙ add-mul-mod_self_right (a / b ^ i) (b ^ j * h) b)

-- digit k + i is digit i of the part above the lowest k digits
high_digit : (b i k a h : ℕ) → 0 < b → a < b ^ k → (a + b ^ k * h) / b ^ (k + i) ≡ h / b ^ i
high_digit b i k a h pos low =
    let d : (a + b ^ k * h) / b ^ k ≡ h = add-mul-div_left a h (pow_above b k pos) ∙ (ap (λ (n : ℕ). n + h) (div-eq_of_lt low) ∙ omega arith) in
    rw (pow-add b k i) (sym (div-div-eq-div-mul (a + b ^ k * h) (b ^ k) (b ^ i)) ∙ ap (λ (n : ℕ). n / b ^ i) d)

-- a bit below 128 is a bit of the lower half
pub low_bit : (i low high : ℕ) → i < 128 → bit_at (low + 2 ^ 128 * high) i ≡ bit_at low i
low_bit i low high h =
    let e : i + suc (127 - i) ≡ 128 = omega arith in
    let p = ap (λ (n : ℕ). 2 ^ n) e in
    rw p at (low_digit 2 i (127 - i) low high (omega arith))

-- a bit from 128 on is a bit of the upper half
pub high_bit : (i low high : ℕ) → 128 ≤ i → low < 2 ^ 128 → bit_at (low + 2 ^ 128 * high) i ≡ bit_at high (i - 128)
high_bit i low high h small =
    let e : 128 + (i - 128) ≡ i = omega arith in
    rw e at (ap (λ (n : ℕ). n % 2) (high_digit 2 (i - 128) 128 low high (omega arith) small))

byte_is : (i n : ℕ) → byte_at i n ≡ n / 256 ^ i % 256
byte_is zero n = rw (pow-zero, div-one) refl
byte_is (suc i) n = refl

-- the lower bytes do not depend on the part above them
low_bytes : (k i j m a h : ℕ) → m ≡ i + k + j → bytes_low_first i k (a + 256 ^ m * h) ≡ bytes_low_first i k a
low_bytes zero i j m a h e = refl
low_bytes (suc k) i j m a h e =
    let first : byte_at i (a + 256 ^ m * h) ≡ byte_at i a =
    let s : m ≡ i + suc (k + j) = omega arith in
    rw (byte_is, byte_is, s) (low_digit 256 i (k + j) a h (omega arith)) in
    let rest : bytes_low_first (suc i) k (a + 256 ^ m * h) ≡ bytes_low_first (suc i) k a = low_bytes k (suc i) j m a h (omega arith) in
    rw (first, rest) refl

-- the bytes above byte m are those of the part above it
high_bytes : (k i n m a h : ℕ) → n ≡ m + i → a < 256 ^ m → bytes_low_first n k (a + 256 ^ m * h) ≡ bytes_low_first i k h
high_bytes zero i n m a h e small = refl
high_bytes (suc k) i n m a h e small =
    let first : byte_at n (a + 256 ^ m * h) ≡ byte_at i h =
    rw (byte_is, byte_is, e) (ap (λ (x : ℕ). x % 256) (high_digit 256 i m a h (omega arith) small)) in
    let rest : bytes_low_first (suc n) k (a + 256 ^ m * h) ≡ bytes_low_first (suc i) k h = high_bytes k (suc i) (suc n) m a h (omega arith) small in
    rw (first, rest) refl

-- the bytes of a number are those of its lower half, and then those of its upper half
pub bytes_of_halves : (low high : ℕ) → low < 2 ^ 128 → bytes_low_first 0 32 (low + 2 ^ 128 * high) ≡ bytes_low_first 0 16 low ++ bytes_low_first 0 16 high
bytes_of_halves low high h =
    let n = low + 2 ^ 128 * high in
    let e = low_bytes 16 0 0 16 low high refl in
    let f = high_bytes 16 0 16 16 low high refl h in
    let s : bytes_low_first 0 32 n ≡ bytes_low_first 0 16 n ++ bytes_low_first 16 16 n = refl in
    s ∙ (ap (λ (xs : List ℕ). xs ++ bytes_low_first 16 16 n) e ∙ ap (λ (xs : List ℕ). bytes_low_first 0 16 low ++ xs) f)
