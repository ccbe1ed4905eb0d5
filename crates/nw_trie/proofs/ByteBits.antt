-- Bytes with the same bits.
use Rattle.nw_trie.proofs.Words.{◌≡◌, ◌∙◌, ℕ, ◌+◌, ◌-◌, ◌*◌, ◌/◌, ◌%◌, ◌^◌, ◌<◌, ◌≤◌, true, false, zero, suc, refl, sym, ap, arith, inl, inr, ◌==◌, eqb-true, eqb-false, cases_lt, div-div-eq-div-mul, pow-suc, eqb}
use Rattle.std.proofs.lemmas.Nat.{le-div}
use Rattle.std.proofs.Math.Nat.{div-mul-le_self}
use Rattle.nw_trie.specs.Bits.{byte_bit}

-- if two numbers are both odd or both even, their last bits are equal
parity : (n m : ℕ) → (n % 2 == 1) ≡ (m % 2 == 1) → n % 2 ≡ m % 2
parity n m e =
    elim (eqb (n % 2) 1) as (λ b. eqb (n % 2) 1 ≡ b → b ≡ (m % 2 == 1) → n % 2 ≡ m % 2) [
      | true ↦ λ odd same. omega (arith, eqb-true (n % 2) 1 odd, eqb-true (m % 2) 1 (sym same))
      | false ↦ λ even same. omega (arith, eqb-false (n % 2) 1 even, eqb-false (m % 2) 1 (sym same))
    ] refl e

-- x / 2^m is the front of a byte: its first 8 - m bits. The front with one bit fewer is half of it
longer_front : (x p : ℕ) → x / (p * 2) ≡ x / p / 2
longer_front x p = sym (div-div-eq-div-mul x p 2)

one_more : (a b : ℕ) → a / 2 ≡ b / 2 → a % 2 ≡ b % 2 → a ≡ b
one_more a b halves last = omega arith

-- bytes with the same bits before this one have the same front
pub same_front : (x y k m : ℕ) → k + m ≡ 8 → x < 256 → y < 256 → ((j : ℕ) → j < k → byte_bit x j ≡ byte_bit y j) → x / 2 ^ m ≡ y / 2 ^ m
same_front x y zero m is hx hy same =
    let all : m ≡ 8 = omega arith in
    rw all (omega arith)
same_front x y (suc k) m is hx hy same =
    let before : x / 2 ^ suc m ≡ y / 2 ^ suc m = same_front x y k (suc m) (omega arith) hx hy (λ j h. same j (omega arith)) in
    let halves : x / 2 ^ m / 2 ≡ y / 2 ^ m / 2 = sym (longer_front x (2 ^ m)) ∙ ap (λ n. x / n) (sym (pow-suc 2 m)) ∙ before ∙ ap (λ n. y / n) (pow-suc 2 m) ∙ longer_front y (2 ^ m) in
    let at : 7 - k ≡ m = omega arith in
    let bit : (x / 2 ^ m % 2 == 1) ≡ (y / 2 ^ m % 2 == 1) = rw at at (same k (omega arith)) in
    one_more (x / 2 ^ m) (y / 2 ^ m) halves (parity (x / 2 ^ m) (y / 2 ^ m) bit)

-- bytes with the same bits are equal
pub same_byte : (x y : ℕ) → x < 256 → y < 256 → ((j : ℕ) → j < 8 → byte_bit x j ≡ byte_bit y j) → x ≡ y
same_byte x y hx hy same =
    let whole : x / 1 ≡ y / 1 = same_front x y 8 0 refl hx hy same in
    omega arith

-- of two bytes, the one with an unset bit at the first difference is smaller
pub smaller_byte : (x y k : ℕ) → x < 256 → y < 256 → k < 8 → ((j : ℕ) → j < k → byte_bit x j ≡ byte_bit y j) → byte_bit x k ≡ false → byte_bit y k ≡ true → x < y
smaller_byte x y k hx hy hk same unset set =
    let m = 7 - k in
    let before : x / 2 ^ suc m ≡ y / 2 ^ suc m = same_front x y k (suc m) (omega arith) hx hy same in
    let halves : x / 2 ^ m / 2 ≡ y / 2 ^ m / 2 = sym (longer_front x (2 ^ m)) ∙ ap (λ n. x / n) (sym (pow-suc 2 m)) ∙ before ∙ ap (λ n. y / n) (pow-suc 2 m) ∙ longer_front y (2 ^ m) in
    let odd : y / 2 ^ m % 2 ≡ 1 = eqb-true (y / 2 ^ m % 2) 1 set in
    let even : x / 2 ^ m % 2 ≡ 1 → ⊥ = eqb-false (x / 2 ^ m % 2) 1 unset in
    let below : x / 2 ^ m < y / 2 ^ m = omega (arith, even) in
    elim (cases_lt x y) [
      | inl less ↦ less
      | inr over ↦
          let up : y / 2 ^ m * 2 ^ m ≤ y = div-mul-le_self y (2 ^ m) in
          absurd (omega (arith, le-div (y / 2 ^ m) x (2 ^ m) (omega arith) (omega arith)))
    ]
