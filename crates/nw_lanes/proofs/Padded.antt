-- The bytes of a padded message, one by one.
use Rattle.std.proofs.Common.{◌≡◌, ℕ, ◌+◌, ◌-◌, ◌*◌, ◌/◌, ◌%◌, ◌^◌, ◌<◌, ◌≤◌, List, ◌∷◌, length, take, drop, replicate, slice_index, refl, sym, ◌∙◌, arith, add-one, length-append, length-drop}
use Rattle.std.proofs.lemmas.List.{get_or_append_left, get_or-append-add, get_or-drop, get_or-take, ext_get_or, length-take-le, append-nil, drop_all, take-append-le, drop-append-le, get_or-replicate, length-replicate}
use Rattle.std.specs.Int.{w64, to_be_bytes}
use Rattle.sha2.specs.Sha256.{padded_message, padding}
use Rattle.nw_lanes.specs.Lanes.{block_at}
use Rattle.nw_lanes.proofs.Filled.{IsFilled}

abbrev zeros : List ℕ → ℕ
zeros m = (119 - length m % 64) % 64

abbrev head : List ℕ → List ℕ
head m = 0x80 ∷ replicate (zeros m) 0

abbrev bits : List ℕ → List ℕ
bits m = to_be_bytes w64 (length m * 8 % 2 ^ 64)

length-head : (m : List ℕ) → length (head m) ≡ zeros m + 1
length-head m = omega (arith, length-replicate {A = ℕ} (zeros m) 0)

pub padded_front : (m : List ℕ) (p : ℕ) → p < length m → slice_index (padded_message m) p ≡ slice_index m p
padded_front m p lt = get_or_append_left m (padding (length m)) 0 p lt

pub padded_mark : (m : List ℕ) (p : ℕ) → p ≡ length m + 0 → slice_index (padded_message m) p ≡ 0x80
padded_mark m p e = rw e (get_or-append-add m (padding (length m)) 0 0)

pub padded_zero : (m : List ℕ) (p j : ℕ) → p ≡ length m + (j + 1) → j < zeros m → slice_index (padded_message m) p ≡ 0
padded_zero m p j e lt =
    let in_head : slice_index (head m) (j + 1) ≡ 0 = rw add-one (get_or-replicate (zeros m) j 0 0 lt) in
    rw e (get_or-append-add m (padding (length m)) (j + 1) 0 ∙ get_or_append_left (head m) (bits m) 0 (j + 1) (omega (arith, length-head m)) ∙ in_head)

pub padded_length : (m : List ℕ) (p j : ℕ) → p ≡ length m + (zeros m + 1 + j) → slice_index (padded_message m) p ≡ slice_index (bits m) j
padded_length m p j e =
    let at : slice_index (padding (length m)) (zeros m + 1 + j) ≡ slice_index (bits m) j = rw (← length-head m) (get_or-append-add (head m) (bits m) j 0) in
    rw e (get_or-append-add m (padding (length m)) (zeros m + 1 + j) 0 ∙ at)

pub length_padded : (m : List ℕ) → length (padded_message m) ≡ length m + (zeros m + 1 + 8)
length_padded m = omega (arith, length-append m (padding (length m)), length-append (head m) (bits m), length-head m)

-- a whole block of the message
pub block_front : (m : List ℕ) (a : ℕ) → a + 64 ≤ length m → take 64 (drop a (padded_message m)) ≡ take 64 (drop a m)
block_front m a fits =
    rw (drop-append-le a m (padding (length m)) (omega arith)) (take-append-le 64 (drop a m) (padding (length m)) (omega (arith, length-drop a m)))

-- 64 bytes, one by one
pub block_filled : (b p : List ℕ) (a : ℕ) → a + 64 ≤ length p → IsFilled b 64 64 (λ j. slice_index p (a + j)) → b ≡ take 64 (drop a p)
block_filled b p a fits held =
    let long : length (take 64 (drop a p)) ≡ 64 = length-take-le 64 (drop a p) (omega (arith, length-drop a p)) in
    ext_get_or 0 b (take 64 (drop a p)) (held.0 ∙ sym long) (λ j lt.
    let low : j < 64 = omega (arith, held.0) in
    held.1 j low ∙ sym (get_or-take 64 (drop a p) j 0 low ∙ get_or-drop a p j 0))

pub block_at_within : (m : List ℕ) (k : ℕ) → k < length (padded_message m) / 64 → block_at m k ≡ take 64 (drop (k * 64) (padded_message m))
unfolding block_at
block_at_within m k lt =
    let none : 64 - (length (padded_message m) - k * 64) ≡ 0 = omega arith in
    rw none (append-nil (take 64 (drop (k * 64) (padded_message m))))

pub block_at_past : (m : List ℕ) (k : ℕ) → length (padded_message m) / 64 ≤ k → block_at m k ≡ replicate 64 0
unfolding block_at
block_at_past m k le =
    let past : length (padded_message m) ≤ k * 64 = omega (arith, length_padded m) in
    let all : 64 - (length (padded_message m) - k * 64) ≡ 64 = omega arith in
    rw (drop_all (k * 64) (padded_message m) past, all) refl
