-- Cutting the encoding of transactions gives these transactions.
use Rattle.nw_codec.proofs.Words.{Bool, true, false, ◌≡◌, ℕ, zero, suc, ◌+◌, ◌*◌, ◌<◌, ◌≤◌, List, [], ◌∷◌, ◌++◌, length, take, drop, refl, sym, ap, ◌∙◌, subst, append_assoc, arith, flat_map, w32, from_be_bytes, to_be_bytes, append-nil, length-append, take_at, drop_at, from_be_bytes-to_be_bytes_4, All, pointwise, All-push}
use Rattle.std.specs.Bool.{Decides}
use Rattle.std.proofs.lemmas.Bool.Decides.{Decides-eqb}
use Rattle.std.specs.Prelude.{◌==◌}
use Rattle.std.specs.Cmp.Lexicographic.{pointwise_decides, bytes_decides}
use Rattle.std.proofs.lemmas.List.Elements.{All-cons, All-head, All-nil, All-tail}
use Rattle.nw_codec.specs.Limits.{longest_transaction}
use Rattle.nw_codec.specs.Typed.{AreBytes}
use Rattle.nw_codec.proofs.Building.{flat_map-push}
use Rattle.nw_codec.specs.Packed.{ArePacked, cut, length_at, transaction_bytes}
use Rattle.nw_codec.specs.Same.{same_bytes}

abbrev pub IsShort : List ℕ → Type 0
IsShort t = length t ≤ longest_transaction

pub cut_length : (n : ℕ) (text : List ℕ) → length (cut n text) ≡ n
cut_length zero text = refl
cut_length (suc n) text = ap suc (cut_length n (drop (length_at text) (drop 4 text)))

-- the length at the front
length_in_front : (t rest : List ℕ) → IsShort t → length_at (transaction_bytes t ++ rest) ≡ length t
length_in_front t rest low =
    ap (λ (x : List ℕ). from_be_bytes w32 (take 4 x)) (append_assoc (to_be_bytes w32 (length t)) t rest)
    ∙ ap (from_be_bytes w32) (take_at (to_be_bytes w32 (length t)) (t ++ rest) 4 refl) ∙ from_be_bytes-to_be_bytes_4 (length t) (omega (arith, low))

after_length : (t rest : List ℕ) → drop 4 (transaction_bytes t ++ rest) ≡ t ++ rest
after_length t rest = ap (drop 4) (append_assoc (to_be_bytes w32 (length t)) t rest) ∙ drop_at (to_be_bytes w32 (length t)) (t ++ rest) 4 refl

cut_packed : (ts : List (List ℕ)) (rest : List ℕ) → All IsShort ts → cut (length ts) (flat_map transaction_bytes ts ++ rest) ≡ ts
cut_packed [] rest low = refl
cut_packed (t ∷ ts) rest low =
    let more : List ℕ = flat_map transaction_bytes ts ++ rest in
    let text : List ℕ = transaction_bytes t ++ more in
    let whole : flat_map transaction_bytes (t ∷ ts) ++ rest ≡ text = append_assoc (transaction_bytes t) (flat_map transaction_bytes ts) rest in
    let front : length_at text ≡ length t = length_in_front t more (All-head IsShort t ts low) in
    let rest_is : drop 4 text ≡ t ++ more = after_length t more in
    let first : take (length_at text) (drop 4 text) ≡ t = rw (front, rest_is) (take_at t more (length t) refl) in
    let left : drop (length_at text) (drop 4 text) ≡ more = rw (front, rest_is) (drop_at t more (length t) refl) in
    let others : cut (length ts) (drop (length_at text) (drop 4 text)) ≡ ts = rw left (cut_packed ts rest (All-tail IsShort t ts low)) in
    ap (cut (suc (length ts))) whole ∙ (λ i. first i ∷ others i)

-- the encoding of these transactions
pub packed : (ts : List (List ℕ)) → All IsShort ts → cut (length ts) (flat_map transaction_bytes ts) ≡ ts
packed ts low = subst (λ (x : List ℕ). cut (length ts) x ≡ ts) (append-nil (flat_map transaction_bytes ts)) (cut_packed ts [] low)

pub packed_one_more : (count : ℕ) (text t : List ℕ) → ArePacked count text → IsShort t → cut (count + 1) (text ++ transaction_bytes t) ≡ cut count text ++ t ∷ []
packed_one_more count text t p low =
    let ts : List (List ℕ) = cut count text in
    let whole : text ++ transaction_bytes t ≡ flat_map transaction_bytes (ts ++ t ∷ []) = ap (λ (x : List ℕ). x ++ transaction_bytes t) p.bytes ∙ sym (flat_map-push transaction_bytes ts t) in
    let many : count + 1 ≡ length (ts ++ t ∷ []) = omega (arith, cut_length count text, length-append ts (t ∷ [])) in
    (λ i. cut (many i) (whole i)) ∙ packed (ts ++ t ∷ []) (All-push IsShort ts t p.short low)

pub are_packed_one_more : (count : ℕ) (text t : List ℕ) → ArePacked count text → IsShort t → ArePacked (count + 1) (text ++ transaction_bytes t)
are_packed_one_more count text t p low =
    let is : cut (count + 1) (text ++ transaction_bytes t) ≡ cut count text ++ t ∷ [] = packed_one_more count text t p low in
    let whole : text ++ transaction_bytes t ≡ flat_map transaction_bytes (cut count text ++ t ∷ []) = ap (λ (x : List ℕ). x ++ transaction_bytes t) p.bytes ∙ sym (flat_map-push transaction_bytes (cut count text) t) in
    record {
      short = rw is (All-push IsShort (cut count text) t p.short low);
      bytes = rw is whole;
    }

-- each takes four bytes at least
pub packed_count : (count : ℕ) (text : List ℕ) → ArePacked count text → 4 * count ≤ length text
packed_count count text p = omega (arith, cut_length count text, at_least (cut count text), ap length p.bytes)
  where
    at_least : (ts : List (List ℕ)) → 4 * length ts ≤ length (flat_map transaction_bytes ts)
    at_least [] = omega arith
    at_least (t ∷ ts) = omega (arith, at_least ts, length-append (transaction_bytes t) (flat_map transaction_bytes ts), length-append (to_be_bytes w32 (length t)) t)

-- if a transaction is at the front, then its length can be read, and it follows the length
pub record IsFront (here item after : List ℕ) : Type 0 where
  pub number : 4 ≤ length here
  pub length_is : length_at here ≡ length item
  pub enough : length item ≤ length (drop 4 here)
  pub after_is : drop (length item) (drop 4 here) ≡ after

pub in_front : (here item after : List ℕ) → IsShort item → here ≡ transaction_bytes item ++ after → IsFront here item after
in_front here item after low is =
    let four : drop 4 here ≡ item ++ after = ap (drop 4) is ∙ after_length item after in
    record {
      number = omega (arith, ap length is, length-append (transaction_bytes item) after, length-append (to_be_bytes w32 (length item)) item);
      length_is = ap length_at is ∙ length_in_front item after low;
      enough = omega (arith, ap length four, length-append item after);
      after_is = ap (drop (length item)) four ∙ drop_at item after (length item) refl;
    }

-- the encoding of `count` transactions gives them again
pub cut_text : (count : ℕ) (ts : List (List ℕ)) → length ts ≡ count → All IsShort ts → cut count (flat_map transaction_bytes ts) ≡ ts
cut_text count ts number low = subst (λ (n : ℕ). cut n (flat_map transaction_bytes ts) ≡ ts) number (packed ts low)

pub are_packed : (count : ℕ) (ts : List (List ℕ)) → length ts ≡ count → All IsShort ts → ArePacked count (flat_map transaction_bytes ts)
are_packed count ts number low =
    let is : cut count (flat_map transaction_bytes ts) ≡ ts = cut_text count ts number low in
    record { short = rw is low; bytes = ap (flat_map transaction_bytes) (sym is) }

parted : {X : Type 0} (P : X → Type 0) (xs ys : List X) → All P (xs ++ ys) → All P xs × All P ys
parted P [] ys all = (All-nil P, all)
parted P (x ∷ xs) ys all =
    let others = parted P xs ys (All-tail P x (xs ++ ys) all) in
    (All-cons P x xs (All-head P x (xs ++ ys) all) others.0, others.1)

-- if the encoding is bytes, so is each transaction
pub bytes_of_each : (ts : List (List ℕ)) → AreBytes (flat_map transaction_bytes ts) → All AreBytes ts
bytes_of_each [] typed = All-nil AreBytes
bytes_of_each (t ∷ ts) typed =
    let both = parted (λ (b : ℕ). b < 256) (transaction_bytes t) (flat_map transaction_bytes ts) typed in
    All-cons AreBytes t ts (parted (λ (b : ℕ). b < 256) (to_be_bytes w32 (length t)) t both.0).1 (bytes_of_each ts both.1)

same_answer : {P Q : Type 0} (r s : Bool) → Decides r P → Decides s Q → (P → Q) → (Q → P) → r ≡ s
same_answer true true d e to from = refl
same_answer false false d e to from = refl
same_answer true false d e to from = sym (e.1 (to (d.0 refl)))
same_answer false true d e to from = d.1 (from (e.0 refl))

-- packed transactions are the same if their texts are
pub same_texts : (count : ℕ) (text other : List ℕ) → ArePacked count text → ArePacked count other → same_bytes text other ≡ pointwise same_bytes (cut count text) (cut count other)
same_texts count text other p q = same_answer _ _ (bytes_decides text other) (pointwise_decides bytes_decides (cut count text) (cut count other))
    (λ e. ap (cut count) e) (λ e. p.bytes ∙ ap (flat_map transaction_bytes) e ∙ sym q.bytes)

-- and not if their numbers differ
pub other_counts : (count number : ℕ) (text other : List ℕ) → (count ≡ number → ⊥) → (count == number) ≡ pointwise same_bytes (cut count text) (cut number other)
other_counts count number text other differ = same_answer _ _ (Decides-eqb count number) (pointwise_decides bytes_decides (cut count text) (cut number other))
    (λ e. absurd (differ e)) (λ e. sym (cut_length count text) ∙ ap length e ∙ cut_length number other)

-- the first of several transactions can be cut off, and the others follow it
pub record IsNext (left : ℕ) (text : List ℕ) : Type 0 where
  pub number : 4 ≤ length text
  pub enough : length_at text ≤ length (drop 4 text)
  pub others : ArePacked left (drop (length_at text) (drop 4 text))

pub next_packed : (left : ℕ) (text : List ℕ) → ArePacked (suc left) text → IsNext left text
next_packed left text p =
    let t : List ℕ = take (length_at text) (drop 4 text) in
    let ts : List (List ℕ) = cut left (drop (length_at text) (drop 4 text)) in
    let f : IsFront text t (flat_map transaction_bytes ts) = in_front text t (flat_map transaction_bytes ts) (All-head IsShort t ts p.short) p.bytes in
    record {
      number = f.number;
      enough = omega (arith, f.length_is, f.enough);
      others = record {
        short = All-tail IsShort t ts p.short;
        bytes = ap (λ (n : ℕ). drop n (drop 4 text)) f.length_is ∙ f.after_is;
      };
    }
