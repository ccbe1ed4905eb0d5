-- Remainders of a long division, four bytes at a time.
use Rattle.nw_ed25519.proofs.Words.{◌≡◌, ℕ, suc, ◌+◌, ◌-◌, ◌*◌, ◌%◌, ◌^◌, ◌<◌, ◌≤◌, List, ◌++◌, true, rules, refl, sym, ◌∙◌, ap, arith, lit<, drop, length, get_or, drop-cons, mod-eq_of_lt, add-mul-mod_self_right, number_from_bytes}
use Rattle.std.proofs.Common.{nat_lt}
use Rattle.std.proofs.Math.Nat.{mod-add-mod, add-mod_right, mod-lt}
use Rattle.std.proofs.lemmas.Nat.{mul-mod_second}
use Rattle.std.proofs.lemmas.List.{drop_all}
use Rattle.sha2.specs.Sha512.{sha512}
use Rattle.nw_ed25519.specs.Accepts.{order, challenge}
use Rattle.nw_ed25519.specs.Words.{word_at}

-- the order is above 2^252
pub order_large : 2 ^ 252 < order
unfolding order
order_large = lit< tt

-- a number below the order that differs from n by a multiple of the order is n's remainder
pub is_remainder : (n r q : ℕ) → r < order → r + q * order ≡ n → r ≡ n % order
is_remainder n r q h e = sym (ap (λ (k : ℕ). k % order) (sym e) ∙ (add-mul-mod_self_right r q order ∙ mod-eq_of_lt h))

-- the same, if the order was subtracted once too often and then added back
pub is_remainder_after_adding_back : (n r q : ℕ) → r < order → r + q * order ≡ n + order → r ≡ n % order
is_remainder_after_adding_back n r q h e = is_remainder (n + order) r q h e ∙ add-mod_right n order

-- the remainder before the first word is 0
pub first_remainder : (bytes : List ℕ) → length bytes ≡ 64 → 0 ≡ number_from_bytes (drop 64 bytes) % order
first_remainder bytes size =
    let none = drop_all 64 bytes (omega arith) in
    rw none (sym (mod-eq_of_lt (omega (arith, order_large))))

-- the bytes from a place on are one byte and those above it
byte_split : (bytes : List ℕ) (place next : ℕ) → place < length bytes → next ≡ suc place → number_from_bytes (drop place bytes) ≡ get_or bytes place 0 + 256 * number_from_bytes (drop next bytes)
byte_split bytes place next h e = rw (e, drop-cons bytes place 0 h) refl

-- so they are a word and those above it
word_split : (bytes : List ℕ) (place : ℕ) → length bytes ≡ 64 → place ≤ 60 → number_from_bytes (drop place bytes) ≡ word_at bytes place + 2 ^ 32 * number_from_bytes (drop (place + 4) bytes)
word_split bytes place size h =
    let a = byte_split bytes place (place + 1) (omega arith) (omega arith) in
    let b = byte_split bytes (place + 1) (place + 2) (omega arith) (omega arith) in
    let c = byte_split bytes (place + 2) (place + 3) (omega arith) (omega arith) in
    let d = byte_split bytes (place + 3) (place + 4) (omega arith) (omega arith) in
    omega (arith, a, b, c, d)

-- the remainder after one more word
appended : (n w rest : ℕ) → rest ≡ n % order → (2 ^ 32 * rest + w) % order ≡ (w + 2 ^ 32 * n) % order
appended n w rest e =
    let turned : 2 ^ 32 * n + w ≡ w + 2 ^ 32 * n = omega arith in
    rw e (sym (mod-add-mod (2 ^ 32 * (n % order)) order w) ∙ (ap (λ (m : ℕ). (m + w) % order) (mul-mod_second (2 ^ 32) n order) ∙ (mod-add-mod (2 ^ 32 * n) order w ∙ ap (λ (m : ℕ). m % order) turned)))

pub next_remainder : (bytes : List ℕ) (d rest r : ℕ) → d < 16 → length bytes ≡ 64 → rest ≡ number_from_bytes (drop (64 - 4 * d) bytes) % order
    → r ≡ (2 ^ 32 * rest + word_at bytes (4 * (15 - d))) % order → r ≡ number_from_bytes (drop (64 - 4 * (d + 1)) bytes) % order
next_remainder bytes d rest r h size er e =
    let i : 64 - 4 * (d + 1) ≡ 4 * (15 - d) = omega arith in
    let j : 64 - 4 * d ≡ 4 * (15 - d) + 4 = omega arith in
    let k = rw j at er in
    rw (i, word_split bytes (4 * (15 - d)) size (omega arith), e) (appended (number_from_bytes (drop (4 * (15 - d) + 4) bytes)) (word_at bytes (4 * (15 - d))) rest k)

-- a remainder is below the order
pub remainder_below : (n r : ℕ) → r ≡ n % order → r < order
remainder_below n r e = rw e (mod-lt n (omega (arith, order_large)))

-- a number below the order has 253 bits
pub bits_below : (n o : ℕ) → o ≡ order → nat_lt n o ≡ true → n < 2 ^ 253
unfolding order
bits_below n o e h =
    let below : n < o = search rules in
    omega (arith, e)

order_small : order < 2 ^ 253
unfolding order
order_small = lit< tt

pub challenge_bits : (r key text : List ℕ) → challenge r key text < 2 ^ 253
unfolding challenge
challenge_bits r key text =
    let below = mod-lt (number_from_bytes (sha512 (r ++ (key ++ text)))) {m = order} (omega (arith, order_large)) in
    omega (arith, below, order_small)
