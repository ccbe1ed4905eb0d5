-- Combs: their entries, and the digits of numbers.
use Rattle.nw_ed25519.proofs.Words.{◌≡◌, ℕ, zero, suc, ◌+◌, ◌-◌, ◌*◌, ◌/◌, ◌%◌, ◌^◌, ◌<◌, ◌≤◌, List, [], ◌∷◌, ◌++◌, length, get_or, refl, sym, ◌∙◌, ap, arith, le_refl, lit<, div-div-eq-div-mul, div-add-mod, mod-eq_of_lt, dec_le, pow-add, identity, added, doubled, normalized, Point, AffineAddend}
use Rattle.std.proofs.Common.{add-one, append_assoc, length-append}
use Rattle.std.proofs.Math.Nat.{add-mul-div_left, add-mul-mod_self_left, one-le-pow, mul-le-mul, pow-le-pow_right}
use Rattle.std.proofs.Math.ListN.{get_or-append}
use Rattle.std.proofs.lemmas.List.{get_or-append_right, append-nil}
use Rattle.nw_curve.specs.Field.{times, inverse as field_inverse}
use Rattle.nw_curve.specs.Inverse.{IsInverse, HasInverse}
use Rattle.nw_curve.specs.Completed.{affine_prepared}
use Rattle.nw_curve.proofs.Inverses.{inverse_of, product-has_inverse, first_inverse, second_inverse}
use Rattle.nw_ed25519.specs.Comb.{repeated, doubled_times, row_point, entry_of, down_to, blocks, rows, digit, with_rows, AreProper, IsPushed}

pub doubled_none : (p : Point) → p ≡ doubled_times 0 p
unfolding doubled_times
doubled_none p = refl

pub doubled_next : (n : ℕ) (p q r : Point) → q ≡ doubled_times n p → r ≡ doubled q → r ≡ doubled_times (n + 1) p
unfolding doubled_times
doubled_next n p q r eq er = rw (add-one, er, eq) refl

pub repeated_none : (p : Point) → identity ≡ repeated 0 p
unfolding repeated
repeated_none p = refl

pub repeated_next : (n : ℕ) (p q r : Point) → q ≡ repeated n p → r ≡ added q p → r ≡ repeated (n + 1) p
unfolding repeated
repeated_next n p q r eq er = rw (add-one, er, eq) refl

pub row_next : (n : ℕ) (p q r : Point) → q ≡ row_point n p → r ≡ doubled_times 16 q → r ≡ row_point (n + 1) p
unfolding row_point
row_next n p q r eq er = rw (add-one, er, eq) refl

pub first_row : (p : Point) → p ≡ row_point 0 p
unfolding row_point
first_row p = refl

pub no_blocks : (before : List AffineAddend) (p : Point) → before ≡ before ++ blocks 0 p
unfolding blocks
no_blocks before p = sym (append-nil before)

pub next_block : (b : ℕ) (before entries after : List AffineAddend) (p : Point) → entries ≡ before ++ blocks b p → after ≡ entries ++ down_to (16 * b) 16 p → after ≡ before ++ blocks (b + 1) p
unfolding blocks
next_block b before entries after p is ea = rw (add-one, ea, is, append_assoc) refl

pub no_rows : (count : ℕ) (p : Point) → [] ≡ rows count 0 p
unfolding rows
no_rows count p = refl

pub next_rows : (count r : ℕ) (entries after : List AffineAddend) (p q : Point) → entries ≡ rows count r p → q ≡ row_point r p → after ≡ entries ++ blocks count q → after ≡ rows count (r + 1) p
unfolding rows
next_rows count r entries after p q is eq ea = rw (add-one, ea, is, eq) refl

-- nothing is appended
pub pushed_none : (n : ℕ) (p multiple : Point) (product inverse : ℕ) (old : List AffineAddend) → HasInverse product → multiple ≡ repeated n p → inverse ≡ field_inverse product
    → IsPushed n 0 p multiple product inverse old old
unfolding down_to
pushed_none n p multiple product inverse old has em ei =
    let same : n ≡ n + 0 = omega arith in record {
      entries = sym (append-nil old);
      next_is = em ∙ ap (λ (m : ℕ). repeated m p) same;
      inverse_is = inverse_of product inverse has ei;
    }

-- one more entry is appended, after those of the later multiples
pub pushed_next : (n count less : ℕ) (p multiple next own : Point) (product more inner inverse own_inverse : ℕ) (e : AffineAddend) (old before after : List AffineAddend)
    → AreProper p → HasInverse product → multiple ≡ repeated n p → count ≡ less + 1 → more ≡ times product multiple.z
    → (HasInverse more → IsPushed (n + 1) less p next more inner old before)
    → own_inverse ≡ times inner product → (IsInverse multiple.z own_inverse → own ≡ normalized multiple) → e ≡ affine_prepared own → after ≡ before ++ (e ∷ []) → inverse ≡ times inner multiple.z
    → IsPushed n count p next product inverse old after
unfolding down_to
pushed_next n count less p multiple next own product more inner inverse own_inverse e old before after proper has em ec emore pushed eo normal ee ea ei =
    let z : HasInverse multiple.z = rw em (proper n) in
    let rest = pushed (product-has_inverse product multiple.z more has z emore) in
    let good = second_inverse product multiple.z more inner own_inverse emore rest.inverse_is eo in
    let is : own ≡ normalized (repeated n p) = normal good ∙ ap normalized em in
    let same : n + 1 + less ≡ n + count = omega (arith, ec) in record {
      entries = rw (ec, add-one, ea, rest.entries, ee, is, append_assoc) refl;
      next_is = rest.next_is ∙ ap (λ (m : ℕ). repeated m p) same;
      inverse_is = first_inverse product multiple.z more inner inverse emore rest.inverse_is ei;
    }

down_length : (n count : ℕ) (p : Point) → length (down_to n count p) ≡ count
unfolding down_to
down_length n zero p = refl
down_length n (suc count) p = rw (length-append, down_length (n + 1) count p) (omega arith)

down_entry : (n count i : ℕ) (p : Point) (x : AffineAddend) → i < count → get_or (down_to n count p) (count - 1 - i) x ≡ entry_of (n + i) p
unfolding down_to
down_entry n zero i p x h = absurd (omega arith)
down_entry n (suc count) zero p x h =
    let place : suc count - 1 - 0 ≡ count = omega arith in
    let none : count - count ≡ 0 = omega arith in
    let same : n + 0 ≡ n = omega arith in
    rw (place, get_or-append_right (down_to (n + 1) count p) (entry_of n p ∷ []) count count x (down_length (n + 1) count p) (le_refl count), none, same) refl
down_entry n (suc count) (suc i) p x h =
    let place : suc count - 1 - suc i ≡ count - 1 - i = omega arith in
    let within : count - 1 - i < length (down_to (n + 1) count p) = rw down_length (omega arith) in
    let same : n + 1 + i ≡ n + suc i = omega arith in
    rw place (get_or-append (down_to (n + 1) count p) (entry_of n p ∷ []) x (count - 1 - i) within ∙ (down_entry (n + 1) count i p x (omega arith) ∙ ap (λ (m : ℕ). entry_of m p) same))

blocks_length : (b : ℕ) (p : Point) → length (blocks b p) ≡ 16 * b
unfolding blocks
blocks_length zero p = omega arith
blocks_length (suc b) p = rw (length-append, blocks_length b p, down_length (16 * b) 16 p) (omega arith)

-- the place of a multiple in its row
abbrev pub in_row : ℕ → ℕ
in_row d = d / 16 * 16 + (15 - d % 16)

blocks_entry : (b d : ℕ) (p : Point) (x : AffineAddend) → d < 16 * b → get_or (blocks b p) (in_row d) x ≡ entry_of d p
unfolding blocks
blocks_entry zero d p x h = absurd (omega arith)
blocks_entry (suc b) d p x h = elim (dec_le (16 * b) d) [
  | yes le ↦
      let place : in_row d - 16 * b ≡ 16 - 1 - d % 16 = omega arith in
      let above : 16 * b ≤ in_row d = omega arith in
      let same : 16 * b + d % 16 ≡ d = omega arith in
      let small : d % 16 < 16 = omega arith in
      rw (get_or-append_right (blocks b p) (down_to (16 * b) 16 p) (16 * b) (in_row d) x (blocks_length b p) above, place) (down_entry (16 * b) 16 (d % 16) p x small ∙ ap (λ (m : ℕ). entry_of m p) same)
  | no gt ↦
      let before : d < 16 * b = omega arith in
      let within : in_row d < length (blocks b p) = rw blocks_length (omega arith) in
      get_or-append (blocks b p) (down_to (16 * b) 16 p) x (in_row d) within ∙ blocks_entry b d p x before
]

pub rows_length : (count r : ℕ) (p : Point) → length (rows count r p) ≡ r * (16 * count)
unfolding rows
rows_length count zero p = omega arith
rows_length count (suc r) p = rw (length-append, rows_length count r p, blocks_length) (omega arith)

-- an entry's place is in its row
place_above : (n r d width : ℕ) → n ≡ r → n * width ≤ r * width + d
place_above n r d width e = rw e (omega arith)

place_rest : (n r d width : ℕ) → n ≡ r → r * width + d - n * width ≡ d
place_rest n r d width e = rw e (omega arith)

pub place_within : (n r d width : ℕ) → r < n → d < width → r * width + d < n * width
place_within n r d width h k =
    let rows = mul-le-mul h (le_refl width) in
    omega (arith, rows)

pub in_row_below : (count d : ℕ) → d < 16 * count → in_row d < 16 * count
in_row_below count d h = omega arith

-- the entry of row r for the digit d
pub rows_entry : (count n r d : ℕ) (p : Point) (x : AffineAddend) → r < n → d < 16 * count → get_or (rows count n p) (r * (16 * count) + in_row d) x ≡ entry_of d (row_point r p)
unfolding rows
rows_entry count zero r d p x h k = absurd (omega arith)
rows_entry count (suc n) r d p x h k = elim (dec_le n r) [
  | yes le ↦
      let same : n ≡ r = omega arith in
      rw (get_or-append_right (rows count n p) (blocks count (row_point n p)) (n * (16 * count)) (r * (16 * count) + in_row d) x (rows_length count n p) (place_above n r (in_row d) (16 * count) same), place_rest n r (in_row d) (16 * count) same, same) (blocks_entry count d (row_point r p) x k)
  | no gt ↦
      let before : r < n = omega arith in
      let within : r * (16 * count) + in_row d < length (rows count n p) = rw rows_length (place_within n r (in_row d) (16 * count) before (in_row_below count d k)) in
      get_or-append (rows count n p) (blocks count (row_point n p)) x (r * (16 * count) + in_row d) within ∙ rows_entry count n r d p x before k
]

-- 16 bits from bit i on are those of the lower half
low_bits : (n i j q m : ℕ) → n ≡ m + 2 ^ i * (65536 * (j * q)) → m / 2 ^ i % 65536 ≡ n / 2 ^ i % 65536
low_bits n i j q m e = sym (rw e (ap (λ (x : ℕ). x % 65536) (add-mul-div_left m (65536 * (j * q)) (one-le-pow i 2 (omega arith))) ∙ add-mul-mod_self_left (m / 2 ^ i) 65536 (j * q)))

pub low_chunk : (n r : ℕ) → r < 8 → n % 2 ^ 128 / 2 ^ (16 * (r % 8)) % 65536 ≡ n / 2 ^ (16 * r) % 65536
low_chunk n r h =
    let i = 16 * r in
    let j = 2 ^ (112 - i) in
    let q = n / 2 ^ 128 in
    let same : r % 8 ≡ r = omega arith in
    let sum : i + (16 + (112 - i)) ≡ 128 = omega arith in
    let power : 2 ^ i * (65536 * j) ≡ 2 ^ 128 = sym (pow-add 2 i (16 + (112 - i)) ∙ ap (λ (x : ℕ). 2 ^ i * x) (pow-add 2 16 (112 - i))) ∙ ap (λ (x : ℕ). 2 ^ x) sum in
    let whole : n ≡ n % 2 ^ 128 + 2 ^ i * (65536 * (j * q)) = omega (arith, ap (λ (x : ℕ). x * q) power, div-add-mod n (2 ^ 128)) in
    rw same (low_bits n i j q (n % 2 ^ 128) whole)

pub high_chunk : (n r : ℕ) → 8 ≤ r → r < 16 → n / 2 ^ 128 / 2 ^ (16 * (r % 8)) % 65536 ≡ n / 2 ^ (16 * r) % 65536
high_chunk n r l h =
    let e : 128 + 16 * (r % 8) ≡ 16 * r = omega arith in
    ap (λ (x : ℕ). x % 65536) (div-div-eq-div-mul n (2 ^ 128) (2 ^ (16 * (r % 8))) ∙ ap (λ (x : ℕ). n / x) (sym (pow-add 2 128 (16 * (r % 8))) ∙ ap (λ (x : ℕ). 2 ^ x) e))

pub no_rows_added : (bits shift n : ℕ) (start p : Point) → start ≡ with_rows bits 0 shift n start p
unfolding with_rows
no_rows_added bits shift n start p = refl

pub next_row_added : (bits r shift n : ℕ) (start p before after e : Point) → before ≡ with_rows bits r shift n start p → e ≡ normalized (repeated (digit bits n r shift) (row_point r p))
    → after ≡ added before e → after ≡ with_rows bits (r + 1) shift n start p
unfolding with_rows
next_row_added bits r shift n start p before after e eb ee ea = rw (add-one, ea, eb, ee) refl

small_power : (n : ℕ) → n ≤ 8 → 2 ^ n ≤ 256
small_power n h = pow-le-pow_right (lit< tt) h

pub power_fits : (n : ℕ) → n ≤ 8 → 1 * 2 ^ n % 2 ^ 64 ≡ 2 ^ n
power_fits n h =
    let small = small_power n h in
    let below : 1 * 2 ^ n < 2 ^ 64 = omega arith in
    mod-eq_of_lt below ∙ omega arith

pub power_small : (n p : ℕ) → n ≤ 8 → p ≡ 2 ^ n → p ≤ 256
power_small n p h e = rw e (small_power n h)

-- the bits of a digit give blocks of 16
pub blocks_of : (bits : ℕ) → 4 ≤ bits → bits ≤ 8 → 16 * (2 ^ bits / 16) ≡ 2 ^ bits
blocks_of bits many few =
    let split : bits ≡ 4 + (bits - 4) = omega arith in
    let power : 2 ^ bits ≡ 16 * 2 ^ (bits - 4) = ap (λ (x : ℕ). 2 ^ x) split ∙ pow-add 2 4 (bits - 4) in
    omega (arith, power)
