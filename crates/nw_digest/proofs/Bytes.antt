-- Lists of bytes, index by index.
use Rattle.std.proofs.Common.{Fits, w8, ◌≡◌, ◌∙◌, ℕ, ◌<◌, Bool, true, false, ◌≤◌, ◌+◌, ◌*◌, drop, List, zero, suc, length, get_or, refl, sym, ap, inl, inr, arith}
use Rattle.std.specs.Bool.{MatchBool}
use Rattle.std.specs.declared.cmp.Ordering.{Ordering}
use Rattle.std.specs.declared.cmp.Ordering.TheVariants.{Less, Equal, Greater}
use Rattle.std.specs.Ordering.{nat_cmp, ordering_then, MatchOrdering}
use Rattle.std.specs.Cmp.{nat_cmp_is, ranks}
use Rattle.std.specs.Cmp.Lexicographic.{slice_cmp}
use Rattle.std.specs.Str.{bytes_eq}
use Rattle.std.specs.Int.{w64, from_be_bytes}
use Rattle.std.specs.Cmp.Lexicographic.{bytes_decides}
use Rattle.std.specs.FinMap.{nat_cmp-IsAntisymmetric}
use Rattle.std.proofs.lemmas.Bool.{cases_lt}
use Rattle.std.proofs.lemmas.List.{ext_get_or, drop_more, get_or-drop, get_or_past}
use Rattle.std.proofs.lemmas.List.Elements.{All-from_get_or}
use Rattle.nw_digest.specs.Bytes.{AreBytes}

-- the items of a slice of `u8` are bytes
pub are_bytes : (bytes : List ℕ) → ((i : ℕ) → Fits w8 (get_or bytes i 0)) → AreBytes bytes
are_bytes bytes fits = All-from_get_or (λ b. b < 256) bytes 0 (λ i lt. omega (arith, fits i))

-- the number at each index of a list of bytes is below 256
pub byte_below : (bytes : List ℕ) → AreBytes bytes → (i : ℕ) → get_or bytes i 0 < 256
byte_below bytes h i =
    elim (cases_lt i (length bytes)) [
      | inl lt ↦ h i 0 lt
      | inr le ↦ let past = get_or_past bytes i 0 le in rw past (omega arith)
    ]

-- lists of 32 bytes with the same byte at each index are equal
pub same_bytes : (xs ys : List ℕ) → length xs ≡ 32 → length ys ≡ 32 → ((k : ℕ) → k < 32 → get_or xs k 0 ≡ get_or ys k 0) → xs ≡ ys
same_bytes xs ys lx ly same = ext_get_or 0 xs ys (lx ∙ sym ly) (λ k h. same k (omega (arith, lx)))

-- a test that decides whether the lists are equal has the same result as `bytes_eq`
pub test_is_bytes_eq : (same : Bool) (xs ys : List ℕ) → MatchBool same (xs ≡ ys) (xs ≡ ys → ⊥) → same ≡ bytes_eq xs ys
test_is_bytes_eq true xs ys one = sym ((bytes_decides xs ys).1 one)
test_is_bytes_eq false xs ys apart =
    elim (bytes_eq xs ys) as (λ b. bytes_eq xs ys ≡ b → false ≡ b) [
      | true ↦ λ e. absurd (apart ((bytes_decides xs ys).0 e))
      | false ↦ λ e. refl
    ] refl

equal : (x : ℕ) → nat_cmp x x ≡ Equal
equal x = sym (nat_cmp_is x x Equal refl)

-- if the first numbers are the same, the rest decides
pub passes : (x y : ℕ) (rest : Ordering) → x ≡ y → ordering_then (nat_cmp x y) rest ≡ rest
passes x y rest same = rw same (ap (λ o. ordering_then o rest) (equal y))

-- if the first numbers differ, the rest of a comparison does not matter
pub decides : (x y : ℕ) (rest : Ordering) → (x ≡ y → ⊥) → ordering_then (nat_cmp x y) rest ≡ nat_cmp x y
decides x y rest apart =
    elim (nat_cmp x y) as (λ o. nat_cmp x y ≡ o → ordering_then o rest ≡ o) [
      | Less ↦ λ e. refl
      | Equal ↦ λ e. absurd (apart (nat_cmp-IsAntisymmetric x y e))
      | Greater ↦ λ e. refl
    ] refl

-- the number that n bytes from byte i on spell after a
abbrev spelt : ℕ → List ℕ → ℕ → ℕ → ℕ
spelt a xs i zero = a
spelt a xs i (suc n) = spelt (a * 256 + get_or xs i 0) xs (i + 1) n

-- the greater number before n bytes makes the greater number after them
rises : (n a b i : ℕ) (xs ys : List ℕ) → ((k : ℕ) → get_or xs k 0 < 256) → a < b → spelt a xs i n < spelt b ys i n
rises zero a b i xs ys small below = below
rises (suc n) a b i xs ys small below =
    let least : get_or xs i 0 < 256 = small i in
    rises n (a * 256 + get_or xs i 0) (b * 256 + get_or ys i 0) (i + 1) xs ys small (omega arith)

-- two lists compare as the numbers that their bytes from i up to e spell, and then as their other bytes
by_words : (n a i e : ℕ) (xs ys : List ℕ) → i + n ≡ e → e ≤ length xs → e ≤ length ys → ((k : ℕ) → get_or xs k 0 < 256) → ((k : ℕ) → get_or ys k 0 < 256)
    → slice_cmp nat_cmp (drop i xs) (drop i ys) ≡ ordering_then (nat_cmp (spelt a xs i n) (spelt a ys i n)) (slice_cmp nat_cmp (drop e xs) (drop e ys))
by_words zero a i e xs ys ends in_xs in_ys small_xs small_ys =
    let here : e ≡ i = omega arith in
    rw here (sym (ap (λ o. ordering_then o (slice_cmp nat_cmp (drop i xs) (drop i ys))) (equal a)))
by_words (suc n) a i e xs ys ends in_xs in_ys small_xs small_ys =
    let x = get_or xs i 0 in
    let y = get_or ys i 0 in
    let rest = slice_cmp nat_cmp (drop e xs) (drop e ys) in
    rw (drop_more xs i 0 (omega arith)) (rw (drop_more ys i 0 (omega arith)) (
    elim (nat_cmp x y) as (λ o. MatchOrdering o (x < y) (x ≡ y) (y < x)
    → ordering_then o (slice_cmp nat_cmp (drop (i + 1) xs) (drop (i + 1) ys)) ≡ ordering_then (nat_cmp (spelt (a * 256 + x) xs (i + 1) n) (spelt (a * 256 + y) ys (i + 1) n)) rest) [
      | Less ↦ λ below. ap (λ o. ordering_then o rest) (nat_cmp_is _ _ Less (rises n (a * 256 + x) (a * 256 + y) (i + 1) xs ys small_xs (omega arith)))
      | Equal ↦ λ same. rw same (by_words n (a * 256 + y) (i + 1) e xs ys (omega (arith, ends)) in_xs in_ys small_xs small_ys)
      | Greater ↦ λ above. ap (λ o. ordering_then o rest) (nat_cmp_is _ _ Greater (rises n (a * 256 + y) (a * 256 + x) (i + 1) ys xs small_ys (omega arith)))
    ] (ranks x y)))

later : (n a i j k : ℕ) (xs : List ℕ) → j + i ≡ k → spelt a (drop j xs) i n ≡ spelt a xs k n
later zero a i j k xs from = refl
later (suc n) a i j k xs from =
    rw (get_or-drop j xs i 0 ∙ ap (λ m. get_or xs m 0) from) (later n (a * 256 + get_or xs k 0) (i + 1) j (k + 1) xs (omega (arith, from)))

-- the word of eight bytes from byte i on
word_is : (zs : List ℕ) → from_be_bytes w64 zs ≡ spelt 0 zs 0 8
word_is zs = omega arith

-- two lists of bytes compare as their words v and w at i, and then as what follows these
pub next_word : (xs ys : List ℕ) (i e v w : ℕ) → i + 8 ≡ e → e ≤ length xs → e ≤ length ys → ((k : ℕ) → get_or xs k 0 < 256) → ((k : ℕ) → get_or ys k 0 < 256)
    → v ≡ from_be_bytes w64 (drop i xs) → w ≡ from_be_bytes w64 (drop i ys)
    → slice_cmp nat_cmp (drop i xs) (drop i ys) ≡ ordering_then (nat_cmp v w) (slice_cmp nat_cmp (drop e xs) (drop e ys))
next_word xs ys i e v w ends in_xs in_ys small_xs small_ys is_v is_w =
    let number : (zs : List ℕ) → from_be_bytes w64 (drop i zs) ≡ spelt 0 zs i 8 = λ zs. word_is (drop i zs) ∙ later 8 0 0 i i zs (omega arith) in
    rw (is_v ∙ number xs) (rw (is_w ∙ number ys) (by_words 8 0 i e xs ys ends in_xs in_ys small_xs small_ys))
