-- Numbers by their digits, and sums of two points by digits.
use Rattle.nw_ed25519.proofs.Words.{◌≡◌, ◌≢◌, ℕ, zero, suc, ◌+◌, ◌-◌, ◌*◌, ◌/◌, ◌%◌, ◌^◌, ◌<◌, List, [], ◌∷◌, length, get_or, drop, drop-cons, refl, get_or-set_other, arith, ◌≤◌, Bool, true, false, ap, sym, ◌∙◌, rules, pow-suc, add-mul-mod_self_right, dec_le, pow-add, length-replicate, doubled, identity, Point, Affine, IsOnCurve, Represents, combination, combination_of_zeros}
use Rattle.std.proofs.Common.{replicate, get_or-drop, get_or-set_same, ◌==◌, pow_mono}
use Rattle.std.proofs.Math.ListN.{set, get_or-eq_default}
use Rattle.std.proofs.Math.Nat.{pow-zero, div-add-mod'}
use Rattle.std.proofs.Math.Decide.{ℕ_discrete}
use Rattle.std.proofs.lemmas.Bool.Decides.{nat_tests}
use Rattle.std.proofs.lemmas.List.{get_or-replicate}
use Rattle.nw_curve.proofs.Tables.{with_entry, with_normalized_entry, digits_added}
use Rattle.nw_ed25519.specs.Digits.{digit_length, number_from_digits}

-- a digit at a place that was 0
digit_set : (digits : List ℕ) (place digit : ℕ) → place < length digits → get_or digits place 0 ≡ 0
    → number_from_digits (set digits place digit) ≡ number_from_digits digits + 2 ^ place * digit
digit_set [] place digit h e = absurd (omega arith)
digit_set (x ∷ xs) zero digit h e = rw pow-zero (omega arith)
digit_set (x ∷ xs) (suc place) digit h e = rw (digit_set xs place digit (omega arith) e, pow-suc) (omega arith)

moved : (n v w x y d r h : ℕ) → n ≡ v + x * r → w ≡ v + x * d → r ≡ d + y * h → n ≡ w + (x * y) * h
moved n v w x y d r h en ew er =
    let e = rw er at en in
    rw (e, ew) (omega arith)

-- one more digit is split off the rest
pub digit_split : (n p l d r h : ℕ) (digits : List ℕ) → n ≡ number_from_digits digits + 2 ^ p * r → p < length digits → get_or digits p 0 ≡ 0 → r ≡ d + 2 ^ l * (r / 2 ^ l) → h ≡ r / 2 ^ l
    → n ≡ number_from_digits (set digits p d) + 2 ^ (p + l) * h
digit_split n p l d r h digits en within e er eh =
    let same : r ≡ d + 2 ^ l * h = rw eh er in
    rw (pow-add 2 p l) (moved n (number_from_digits digits) (number_from_digits (set digits p d)) (2 ^ p) (2 ^ l) d r h en (digit_set digits p d within e) same)

-- nothing is left above the last place
pub nothing_left : (n v p r : ℕ) → n ≡ v + 2 ^ p * r → 253 ≤ p → n < 2 ^ 253 → v ≡ n
nothing_left n v p zero e h s = omega (arith, e)
nothing_left n v p (suc r) e h s =
    let large : 2 ^ 253 ≤ 2 ^ p = pow_mono h in
    let more : 2 ^ p * suc r ≡ 2 ^ p + 2 ^ p * r = omega arith in
    absurd (omega (arith, e, s, large, more))

two_times_power : (b : ℕ) → 0 < b → 2 ^ b ≡ 2 * 2 ^ (b - 1)
two_times_power zero h = absurd (omega arith)
two_times_power (suc b) h = let e : suc b - 1 ≡ b = omega arith in rw (e, pow-suc) (omega arith)

-- a remainder by an even number is odd for an odd number
even_product : (q m h : ℕ) → m ≡ 2 * h → q * m ≡ 2 * (q * h)
even_product q m h e = rw e (omega arith)

remainder_parity : (n m h : ℕ) → m ≡ 2 * h → n % m % 2 ≡ n % 2
remainder_parity n m h e =
    let d : n / m * m + n % m ≡ n = div-add-mod' n m in
    let k = even_product (n / m) m h e in
    omega (arith, d, k)

pub is_odd_from : (n : ℕ) (b : Bool) → b ≡ (n % 2 == 1) → b ≡ true → n % 2 ≡ 1
is_odd_from n b e t =
    let k : (n % 2 == 1) ≡ true = sym e ∙ t in
    search rules

pub is_even_from : (n : ℕ) (b : Bool) → b ≡ (n % 2 == 1) → b ≡ false → n % 2 ≢ 1
is_even_from n b e t =
    let k : (n % 2 == 1) ≡ false = sym e ∙ t in
    grind (arith, nat_tests)

-- the lowest bits of an odd number
pub lowest_bits_odd : (n b d : ℕ) → 0 < b → n % 2 ≡ 1 → d ≡ n % 2 ^ 128 % 2 ^ b → d % 2 ≡ 1
lowest_bits_odd n b d h o e =
    let p : 2 ^ b ≡ 2 * 2 ^ (b - 1) = two_times_power b h in
    let k = remainder_parity (n % 2 ^ 128) (2 ^ b) (2 ^ (b - 1)) p in
    omega (arith, e, k, o)

multiple_dropped : (n w k m : ℕ) → w ≡ k * m → n % w % k ≡ n % k
multiple_dropped n w k m e =
    let q = n / w in
    let p : q * w ≡ q * m * k = let t : q * (k * m) ≡ q * m * k = omega arith in ap (λ (x : ℕ). q * x) e ∙ t in
    let d : q * w + n % w ≡ n = div-add-mod' n w in
    let s : n % w + q * m * k ≡ n = omega (arith, d, p) in
    sym (add-mul-mod_self_right (n % w) (q * m) k) ∙ ap (λ (x : ℕ). x % k) s

low_half : (n b : ℕ) → b ≤ 7 → n % 2 ^ 128 % 2 ^ b ≡ n % 2 ^ b
low_half n b h =
    let e : b + (128 - b) ≡ 128 = omega arith in
    let p : 2 ^ 128 ≡ 2 ^ b * 2 ^ (128 - b) = ap (λ (k : ℕ). 2 ^ k) (sym e) ∙ pow-add 2 b (128 - b) in
    multiple_dropped n (2 ^ 128) (2 ^ b) (2 ^ (128 - b)) p

-- a number is its lowest digit and the rest above it
pub odd_rest : (n b d : ℕ) → 0 < b → b ≤ 7 → n % 2 ≡ 1 → d ≡ n % 2 ^ 128 % 2 ^ b → n ≡ d + 2 ^ digit_length b d * (n / 2 ^ digit_length b d)
odd_rest n b d some few o e =
    let odd = lowest_bits_odd n b d some o e in
    let no : (d == 0) ≡ false = grind (arith, nat_tests) in
    let s : n / 2 ^ b * 2 ^ b + n % 2 ^ b ≡ n = div-add-mod' n (2 ^ b) in
    let k : d ≡ n % 2 ^ b = e ∙ low_half n b few in
    let t : n / 2 ^ b * 2 ^ b ≡ 2 ^ b * (n / 2 ^ b) = omega arith in
    rw no (omega (arith, s, k, t))

pub even_rest : (n b : ℕ) → n % 2 ≢ 1 → n ≡ 0 + 2 ^ digit_length b 0 * (n / 2 ^ digit_length b 0)
even_rest n b h = omega arith

pub zeros : (n i : ℕ) → get_or {A = ℕ} (replicate n 0) i 0 ≡ 0
zeros n i = elim (dec_le n i) [
  | yes le ↦ get_or-eq_default {A = ℕ} (replicate n 0) 0 (rw length-replicate le)
  | no gt ↦ get_or-replicate {A = ℕ} n i 0 0 (omega arith)
]

-- what holds of each digit, and of one more
pub each_digit : (P : ℕ → Type 0) (digits : List ℕ) (place digit : ℕ) → place < length digits → P digit → ((i : ℕ) → P (get_or digits i 0)) → (i : ℕ) → P (get_or (set digits place digit) i 0)
each_digit P digits place digit within here all i = elim (ℕ_discrete i place) [
  | yes e ↦ rw (e, get_or-set_same) here
  | no other ↦ rw get_or-set_other (all i)
]

-- a number whose digits are all 0
no_value : (digits : List ℕ) → ((i : ℕ) → get_or digits i 0 ≡ 0) → number_from_digits digits ≡ 0
no_value [] h = refl
no_value (d ∷ digits) h =
    let first : d ≡ 0 = h 0 in
    let rest = no_value digits (λ i. h (suc i)) in
    omega (arith, first, rest)

-- nothing is above the places that are used
pub unused_value : (digits : List ℕ) (places : ℕ) → ((i : ℕ) → i < length digits → places ≤ i → get_or digits i 0 ≡ 0) → number_from_digits (drop places digits) ≡ 0
unused_value digits places h =
    no_value (drop places digits) (λ i. rw get_or-drop (elim (dec_le (length digits) (places + i)) [
      | yes le ↦ get_or-eq_default {A = ℕ} digits 0 le
      | no gt ↦ h (places + i) (omega arith) (omega arith)
    ]))

-- the sum before the first digit
pub no_digits : (s k : List ℕ) (places : ℕ) (p : Point) (a b : Affine) → ((i : ℕ) → i < length s → places ≤ i → get_or s i 0 ≡ 0) → ((i : ℕ) → i < length k → places ≤ i → get_or k i 0 ≡ 0) → p ≡ identity
    → Represents p (combination (number_from_digits (drop (places - 0) s)) (number_from_digits (drop (places - 0) k)) a b)
no_digits s k places p a b hs hk e =
    let z : places - 0 ≡ places = omega arith in
    let ds = unused_value s places hs in
    let dk = unused_value k places hk in
    rw (z, e, ds, dk) (combination_of_zeros a b)

-- the sum after one more digit of each number
pub next_digits : (s k : List ℕ) (places d : ℕ) (p q e f : Point) (a b : Affine) → IsOnCurve a → IsOnCurve b → Represents e a → Represents f b → length s ≡ 253 → length k ≡ 253 → places ≤ 253 → d < places
    → (get_or s (places - 1 - d) 0 ≢ 0 → get_or s (places - 1 - d) 0 % 2 ≡ 1) → (get_or k (places - 1 - d) 0 ≢ 0 → get_or k (places - 1 - d) 0 % 2 ≡ 1)
    → Represents p (combination (number_from_digits (drop (places - d) s)) (number_from_digits (drop (places - d) k)) a b)
    → q ≡ with_entry (get_or k (places - 1 - d) 0) (with_normalized_entry (get_or s (places - 1 - d) 0) (doubled p) e) f
    → Represents q (combination (number_from_digits (drop (places - (d + 1)) s)) (number_from_digits (drop (places - (d + 1)) k)) a b)
next_digits s k places d p q e f a b u v re rf ls lk few h os ok r eq =
    let place = places - 1 - d in
    let i : places - (d + 1) ≡ place = omega arith in
    let j : places - d ≡ suc place = omega arith in
    let ws : place < length s = omega arith in
    let wk : place < length k = omega arith in
    let before = rw j at r in
    rw (i, drop-cons s place 0 ws, drop-cons k place 0 wk)
    (digits_added (number_from_digits (drop (suc place) s)) (number_from_digits (drop (suc place) k)) (get_or s place 0) (get_or k place 0) p q e f a b u v re rf os ok before eq)
