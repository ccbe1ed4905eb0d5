-- The first bits of a digest, read from its first three bytes.
use Rattle.nw_trie.proofs.Words.{◌≡◌, ◌∙◌, ℕ, zero, suc, ◌+◌, ◌-◌, ◌*◌, ◌/◌, ◌%◌, ◌^◌, ◌<◌, true, false, cond, get_or, refl, sym, ap, arith, inl, inr, ◌==◌, eqb-true, eqb-false, cases_lt, div-div-eq-div-mul, pow-suc, eqb, Digest}
use Rattle.std.proofs.lemmas.Nat.{pow-add}
use Rattle.nw_trie.specs.Bits.{bit_of}
use Rattle.nw_trie.specs.Places.{place_of}

-- the number of the first three bytes
abbrev pub front : Digest → ℕ
front d = (get_or d.0 0 0 * 256 + get_or d.0 1 0) * 256 + get_or d.0 2 0

-- a bit of the last byte of a number
last_byte : (t u b : ℕ) → t < 8 → (u * 256 + b) / 2 ^ t % 2 ≡ b / 2 ^ t % 2
last_byte zero u b low = omega arith
last_byte (suc zero) u b low = omega arith
last_byte (suc (suc zero)) u b low = omega arith
last_byte (suc (suc (suc zero))) u b low = omega arith
last_byte (suc (suc (suc (suc zero)))) u b low = omega arith
last_byte (suc (suc (suc (suc (suc zero))))) u b low = omega arith
last_byte (suc (suc (suc (suc (suc (suc zero)))))) u b low = omega arith
last_byte (suc (suc (suc (suc (suc (suc (suc zero))))))) u b low = omega arith
last_byte (suc (suc (suc (suc (suc (suc (suc (suc t)))))))) u b low = absurd (omega (arith, low))

-- the last digit of a number, by a test
last_digit : (n : ℕ) → cond (n % 2 == 1) 1 0 ≡ n % 2
last_digit n =
    elim (eqb (n % 2) 1) as (λ b. eqb (n % 2) 1 ≡ b → cond b 1 0 ≡ n % 2) [
      | true ↦ λ odd. omega (arith, eqb-true (n % 2) 1 odd)
      | false ↦ λ even. omega (arith, eqb-false (n % 2) 1 even)
    ] refl

module _ (d : Digest) (small : (k : ℕ) → get_or d.0 k 0 < 256) where
  -- a bit of the digest is one of a byte, and of the front that ends in this byte
  in_byte : (n m i t s u : ℕ) → n / 8 ≡ i → 7 - n % 8 ≡ t → m ≡ s + t → t < 8 → front d / 2 ^ s ≡ u * 256 + get_or d.0 i 0 → front d / 2 ^ m % 2 ≡ cond (bit_of d n) 1 0
  in_byte n m i t s u byte bit is low ends =
      ap (λ p. front d / 2 ^ p % 2) is ∙ ap (λ p. front d / p % 2) (pow-add 2 s t) ∙ ap (λ q. q % 2) (sym (div-div-eq-div-mul (front d) (2 ^ s) (2 ^ t)))
      ∙ ap (λ q. q / 2 ^ t % 2) ends ∙ last_byte t u (get_or d.0 i 0) low
      ∙ sym (ap (λ j. get_or d.0 j 0 / 2 ^ (7 - n % 8) % 2) byte ∙ ap (λ j. get_or d.0 i 0 / 2 ^ j % 2) bit)
      ∙ sym (last_digit (get_or d.0 (n / 8) 0 / 2 ^ (7 - n % 8)))

  -- bit n is the last one of the first n + 1
  last : (n m : ℕ) → n + m ≡ 23 → front d / 2 ^ m % 2 ≡ cond (bit_of d n) 1 0
  last n m is = elim (cases_lt n 8) [
    | inl first ↦ in_byte n m 0 (7 - n) 16 0 (omega arith) (omega arith) (omega arith) (omega arith) (omega (arith, small 0, small 1, small 2))
    | inr more ↦ elim (cases_lt n 16) [
      | inl second ↦ in_byte n m 1 (15 - n) 8 (get_or d.0 0 0) (omega arith) (omega arith) (omega arith) (omega arith) (omega (arith, small 2))
      | inr third ↦ in_byte n m 2 (23 - n) 0 (get_or d.0 0 0 * 256 + get_or d.0 1 0) (omega arith) (omega arith) (omega arith) (omega arith) (omega arith)
    ]
  ]

  -- the first n bits of the digest are those of its first three bytes
  pub first_bits : (n m : ℕ) → n + m ≡ 24 → front d / 2 ^ m ≡ place_of n d
  first_bits zero m is =
      let whole : m ≡ 24 = omega (arith, is) in
      rw whole (omega (arith, small 0, small 1, small 2))
  first_bits (suc n) m is =
      let before : front d / 2 ^ suc m ≡ place_of n d = first_bits n (suc m) (omega (arith, is)) in
      let halves : front d / 2 ^ suc m ≡ front d / 2 ^ m / 2 = ap (λ p. front d / p) (pow-suc 2 m) ∙ sym (div-div-eq-div-mul (front d) (2 ^ m) 2) in
      omega (arith, before, halves, last n m (omega (arith, is)))
