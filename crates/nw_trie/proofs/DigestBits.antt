-- The order of digests by their bits.
use Rattle.nw_trie.proofs.Words.{◌≡◌, ◌∙◌, ℕ, ◌+◌, ◌-◌, ◌/◌, ◌%◌, ◌<◌, true, false, List, [], ◌∷◌, refl, sym, ap, arith, inl, inr, get_or, length, Less, Equal, Greater, ordering_reverse, AllByRecursion, cases_lt, Digest, digest_cmp, AreBytes}
use Rattle.std.specs.Ordering.{nat_cmp, ordering_then}
use Rattle.std.specs.Cmp.{nat_cmp_is}
use Rattle.std.specs.FinMap.{slice_cmp-IsAntisymmetric, nat_cmp-IsAntisymmetric}
use Rattle.std.specs.Cmp.Lexicographic.{slice_cmp, nat_list_cmp_total}
use Rattle.std.proofs.lemmas.List.{ext_get_or}
use Rattle.std.proofs.lemmas.List.Elements.{recursion_from_All}
use Rattle.nw_trie.specs.Bits.{AgreeBelow, bit_of, byte_bit, list_bit}
use Rattle.nw_trie.proofs.ByteBits.{same_byte, smaller_byte}

later_byte : (x : ℕ) (xs : List ℕ) (n : ℕ) → get_or (x ∷ xs) (n + 1) 0 ≡ get_or xs n 0
later_byte x xs n = rw Rattle.std.proofs.Common.add-one refl

-- the bits after the first byte
later_bits : (x : ℕ) (xs : List ℕ) (j : ℕ) → list_bit (x ∷ xs) (j + 8) ≡ list_bit xs j
later_bits x xs j =
    let place : (j + 8) / 8 ≡ j / 8 + 1 = omega arith in
    let bit : (j + 8) % 8 ≡ j % 8 = omega arith in
    rw (place, bit) (ap (λ b. byte_bit b (j % 8)) (later_byte x xs (j / 8)))

-- the bits of the first byte
first_bits : (x : ℕ) (xs : List ℕ) (j : ℕ) → j < 8 → list_bit (x ∷ xs) j ≡ byte_bit x j
first_bits x xs j h =
    let place : j / 8 ≡ 0 = omega arith in
    let bit : j % 8 ≡ j = omega arith in
    rw (place, bit) refl

no_bits : (n : ℕ) → list_bit [] n ≡ false
no_bits n = rw Rattle.std.proofs.Math.Nat.zero-div refl

-- of two lists of bytes, the one with an unset bit at the first difference comes first
bits_order : (xs ys : List ℕ) (i : ℕ) → AllByRecursion (λ b. b < 256) xs → AllByRecursion (λ b. b < 256) ys → ((j : ℕ) → j < i → list_bit xs j ≡ list_bit ys j) → list_bit xs i ≡ false → list_bit ys i ≡ true → slice_cmp nat_cmp xs ys ≡ Less
bits_order [] [] i hx hy same unset set = let e : false ≡ true = sym unset ∙ set in cc
bits_order [] (y ∷ ys) i hx hy same unset set = refl
bits_order (x ∷ xs) [] i hx hy same unset set = let e : false ≡ true = sym (no_bits i) ∙ set in cc
bits_order (x ∷ xs) (y ∷ ys) i hx hy same unset set =
    elim (cases_lt i 8) [
      | inl inside ↦
          let below : x < y = smaller_byte x y i hx.0 hy.0 inside (λ j h. sym (first_bits x xs j (omega arith)) ∙ same j h ∙ first_bits y ys j (omega arith)) (sym (first_bits x xs i inside) ∙ unset) (sym (first_bits y ys i inside) ∙ set) in
          ap (λ o. ordering_then o (slice_cmp nat_cmp xs ys)) (sym (nat_cmp_is x y Less below))
      | inr past ↦
          let at : i - 8 + 8 ≡ i = omega arith in
          let byte : x ≡ y = same_byte x y hx.0 hy.0 (λ j h. sym (first_bits x xs j h) ∙ same j (omega arith) ∙ first_bits y ys j h) in
          let unset_there : list_bit (x ∷ xs) (i - 8 + 8) ≡ false = rw at unset in
          let set_there : list_bit (y ∷ ys) (i - 8 + 8) ≡ true = rw at set in
          let rest : slice_cmp nat_cmp xs ys ≡ Less =
          bits_order xs ys (i - 8) hx.1 hy.1 (λ j h. sym (later_bits x xs j) ∙ same (j + 8) (omega arith) ∙ later_bits y ys j) (sym (later_bits x xs (i - 8)) ∙ unset_there) (sym (later_bits y ys (i - 8)) ∙ set_there) in
          rw byte (ap (λ o. ordering_then o (slice_cmp nat_cmp xs ys)) (sym (nat_cmp_is y y Equal refl)) ∙ rest)
    ]

-- the same for digests
pub digest_less : (a b : Digest) (i : ℕ) → AreBytes a.0 → AreBytes b.0 → AgreeBelow i a b → bit_of a i ≡ false → bit_of b i ≡ true → digest_cmp a b ≡ Less
digest_less a b i ha hb same unset set = bits_order a.0 b.0 i (recursion_from_All (λ b. b < 256) a.0 ha) (recursion_from_All (λ b. b < 256) b.0 hb) same unset set

pub digest_greater : (a b : Digest) (i : ℕ) → AreBytes a.0 → AreBytes b.0 → AgreeBelow i a b → bit_of a i ≡ true → bit_of b i ≡ false → digest_cmp a b ≡ Greater
digest_greater a b i ha hb same set unset =
    nat_list_cmp_total.antisymm a.0 b.0 ∙ ap ordering_reverse (bits_order b.0 a.0 i (recursion_from_All (λ b. b < 256) b.0 hb) (recursion_from_All (λ b. b < 256) a.0 ha) (λ j h. sym (same j h)) unset set)

-- digests with the same bytes are equal
pub digest_of_bytes : (a b : Digest) → a.0 ≡ b.0 → a ≡ b
digest_of_bytes a b e = ap (λ (xs : List ℕ). let d : Digest = record { 0 = xs } in d) e

-- digests that compare as equal are equal, and have the same bits
pub one_digest : (a b : Digest) → digest_cmp a b ≡ Equal → a ≡ b
one_digest a b e = digest_of_bytes a b (slice_cmp-IsAntisymmetric nat_cmp-IsAntisymmetric a.0 b.0 e)

pub same_bits : (a b : Digest) → digest_cmp a b ≡ Equal → (j : ℕ) → bit_of a j ≡ bit_of b j
same_bits a b e j = ap (λ d. bit_of d j) (one_digest a b e)

-- digests with the same byte at each of 32 indices are equal
pub same_digest : (a b : Digest) → length a.0 ≡ 32 → length b.0 ≡ 32 → ((k : ℕ) → k < 32 → get_or a.0 k 0 ≡ get_or b.0 k 0) → a ≡ b
same_digest a b la lb same =
    digest_of_bytes a b (ext_get_or 0 a.0 b.0 (la ∙ sym lb) (λ k h. same k (omega (arith, la))))
