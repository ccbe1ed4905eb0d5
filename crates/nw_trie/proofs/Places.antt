-- Digests and their places among many trees.
use Rattle.nw_trie.proofs.Words.{◌≡◌, ◌∙◌, inl, inr, ℕ, zero, suc, ◌+◌, ◌-◌, ◌*◌, ◌<◌, ◌≤◌, Bool, true, false, cond, List, [], ◌∷◌, ◌++◌, None, length, refl, sym, ap, subst, arith, get_or, append-nil, length-append, cases_lt, lookup, remove_entry, insert_entry, is_at, ordering_reverse, Less, Greater, Digest, digest_cmp, digests_total, AreBytes}
use Rattle.std.proofs.Common.{slice_set, append_assoc}
use Rattle.nw_trie.specs.Bits.{AgreeBelow, bit_of}
use Rattle.nw_trie.specs.Entries.{EachKey}
use Rattle.nw_trie.specs.Places.{AreAtPlaces, joined, place_of}
use Rattle.nw_trie.proofs.DigestBits.{digest_less, one_digest}
use Rattle.nw_trie.proofs.Keys.{each_left, each_right, each_both, each_more, each_pair, each_insert, each_remove}
use Rattle.nw_trie.proofs.Inserts.{insert_before, insert_past}
use Rattle.nw_trie.proofs.Removals.{remove_before, remove_none, remove_past}
use Rattle.nw_trie.proofs.Sides.{lookup_before, lookup_past, none_found, unlike}

-- a bit as a number
abbrev pub digit : Bool → ℕ
digit b = cond b 1 0

pub small_digit : (b : Bool) → digit b < 2
small_digit true = omega arith
small_digit false = omega arith

one_digit : (a b : Bool) → digit a ≡ digit b → a ≡ b
one_digit true true h = refl
one_digit true false h = absurd (omega (arith, h))
one_digit false true h = absurd (omega (arith, h))
one_digit false false h = refl

unset_below : (a b : Bool) → digit a < digit b → (a ≡ false) × (b ≡ true)
unset_below true true h = absurd (omega (arith, h))
unset_below true false h = absurd (omega (arith, h))
unset_below false true h = (refl, refl)
unset_below false false h = absurd (omega (arith, h))

-- the place by one bit more
pub next_place : (n : ℕ) (d : Digest) → place_of (n + 1) d ≡ 2 * place_of n d + digit (bit_of d n)
next_place n d = rw Rattle.std.proofs.Common.add-one refl

-- digests of one place have the same first bits
pub same_place : (n : ℕ) (a b : Digest) → place_of n a ≡ place_of n b → AgreeBelow n a b
same_place zero a b is j low = absurd (omega (arith, low))
same_place (suc n) a b is j low =
    let bit_a = small_digit (bit_of a n) in
    let bit_b = small_digit (bit_of b n) in
    let places : place_of n a ≡ place_of n b = omega (arith, is, bit_a, bit_b) in
    let bits : digit (bit_of a n) ≡ digit (bit_of b n) = omega (arith, is, places) in
    elim (cases_lt j n) [
      | inl before ↦ same_place n a b places j before
      | inr at ↦ let here : j ≡ n = omega (arith, at, low) in rw here (one_digit _ _ bits)
    ]

-- a digest of a lower place is less
pub lower_place : (n : ℕ) (a b : Digest) → AreBytes a.0 → AreBytes b.0 → place_of n a < place_of n b → digest_cmp a b ≡ Less
lower_place zero a b ha hb low = absurd (omega (arith, low))
lower_place (suc n) a b ha hb low =
    elim (cases_lt (place_of n a) (place_of n b)) [
      | inl before ↦ lower_place n a b ha hb before
      | inr past ↦
          let bit_a = small_digit (bit_of a n) in
          let bit_b = small_digit (bit_of b n) in
          let places : place_of n a ≡ place_of n b = omega (arith, low, past, bit_a, bit_b) in
          let below : digit (bit_of a n) < digit (bit_of b n) = omega (arith, low, places) in
          let bits = unset_below _ _ below in
          digest_less a b n ha hb (same_place n a b places) bits.0 bits.1
    ]

greater : (a b : Digest) → digest_cmp b a ≡ Less → digest_cmp a b ≡ Greater
greater a b less = digests_total.antisymm a b ∙ ap ordering_reverse less

-- a digest is not found at another place
pub other_place : (n : ℕ) (d k : Digest) → (place_of n d ≡ place_of n k → ⊥) → is_at (digest_cmp d) k ≡ false
other_place n d k apart = unlike (digest_cmp d k) (λ e. apart (ap (place_of n) (one_digest d k e)))

module _ {V : Type 0} where
  -- in trees at places from one on, each digest is of bytes, and its place is not lower
  all_from : (n p q : ℕ) (trees : List (List (Digest × V))) → p ≤ q → AreAtPlaces n q trees → EachKey (λ k. AreBytes k.0 × (p ≤ place_of n k)) (joined trees)
  all_from n p q [] low h = tt
  all_from n p q (tree ∷ trees) low h =
      each_both _ tree (joined trees) (each_more _ _ (λ k there. (there.0, omega (arith, low, there.1))) tree h.0) (all_from n p (q + 1) trees (omega (arith, low)) h.1)

  -- a digest is not found in the trees after its own
  not_after : (n p : ℕ) (trees : List (List (Digest × V))) (d : Digest) → AreAtPlaces n (p + 1) trees → place_of n d ≡ p → EachKey (λ k. is_at (digest_cmp d) k ≡ false) (joined trees)
  not_after n p trees d h at = each_more _ _ (λ k there. other_place n d k (λ e. omega (arith, at, e, there.1))) (joined trees) (all_from n (p + 1) (p + 1) trees (omega arith) h)

  -- a digest is not found in a tree at another place
  not_in : (n p : ℕ) (tree : List (Digest × V)) (d : Digest) → EachKey (λ k. AreBytes k.0 × (place_of n k ≡ p)) tree → (place_of n d ≡ p → ⊥) → EachKey (λ k. is_at (digest_cmp d) k ≡ false) tree
  not_in n p tree d h apart = each_more _ _ (λ k there. other_place n d k (λ e. apart (e ∙ there.1))) tree h

  -- a lookup finds what the tree at the digest's place has
  found_from : (n p : ℕ) (trees : List (List (Digest × V))) (d : Digest) (i : ℕ) → AreAtPlaces n p trees → place_of n d ≡ p + i → lookup (is_at (digest_cmp d)) (get_or trees i []) ≡ lookup (is_at (digest_cmp d)) (joined trees)
  found_from n p [] d i h at = refl
  found_from n p (tree ∷ trees) d zero h at = sym (lookup_before (is_at (digest_cmp d)) tree (joined trees) (not_after n p trees d h.1 (omega (arith, at))))
  found_from n p (tree ∷ trees) d (suc i) h at =
      found_from n (p + 1) trees d i h.1 (omega (arith, at)) ∙ sym (lookup_past (is_at (digest_cmp d)) tree (joined trees) (not_in n p tree d h.0 (λ e. omega (arith, at, e))))

  -- a digest above those of a tree
  above : (n p : ℕ) (tree : List (Digest × V)) (d : Digest) → AreBytes d.0 → EachKey (λ k. AreBytes k.0 × (place_of n k ≡ p)) tree → p < place_of n d → EachKey (λ k. digest_cmp d k ≡ Greater) tree
  above n p tree d bytes h low = each_more _ _ (λ k there. greater d k (lower_place n k d there.0 bytes (omega (arith, low, there.1)))) tree h

  -- the trees after an entry is put into the tree at its place
  pub put_from : (n p : ℕ) (trees : List (List (Digest × V))) (d : Digest) (v : V) (i : ℕ) → AreBytes d.0 → AreAtPlaces n p trees → place_of n d ≡ p + i → i < length trees
      → joined (slice_set trees i (insert_entry digest_cmp (get_or trees i []) d v)) ≡ insert_entry digest_cmp (joined trees) d v
  put_from n p [] d v i bytes h at low = absurd (omega (arith, low))
  put_from n p (tree ∷ trees) d v zero bytes h at low =
      sym (insert_before d v tree (joined trees) (each_more _ _ (λ k there. lower_place n d k bytes there.0 (omega (arith, at, there.1))) (joined trees) (all_from n (p + 1) (p + 1) trees (omega arith) h.1)))
  put_from n p (tree ∷ trees) d v (suc i) bytes h at low =
      ap (λ es. tree ++ es) (put_from n (p + 1) trees d v i bytes h.1 (omega (arith, at)) (omega (arith, low))) ∙ sym (insert_past d v tree (joined trees) (above n p tree d bytes h.0 (omega (arith, at))))

  -- the trees after an entry is removed from the tree at its place
  pub removed_from : (n p : ℕ) (trees : List (List (Digest × V))) (d : Digest) (i : ℕ) → AreAtPlaces n p trees → place_of n d ≡ p + i → i < length trees
      → joined (slice_set trees i (remove_entry (is_at (digest_cmp d)) (get_or trees i []))) ≡ remove_entry (is_at (digest_cmp d)) (joined trees)
  removed_from n p [] d i h at low = absurd (omega (arith, low))
  removed_from n p (tree ∷ trees) d zero h at low = sym (remove_before (is_at (digest_cmp d)) tree (joined trees) (not_after n p trees d h.1 (omega (arith, at))))
  removed_from n p (tree ∷ trees) d (suc i) h at low =
      ap (λ es. tree ++ es) (removed_from n (p + 1) trees d i h.1 (omega (arith, at)) (omega (arith, low))) ∙ sym (remove_past (is_at (digest_cmp d)) tree (joined trees) (not_in n p tree d h.0 (λ e. omega (arith, at, e))))

  -- trees stay at their places if one is replaced by another of that place
  pub placed_from : (n p : ℕ) (trees : List (List (Digest × V))) (i : ℕ) (tree : List (Digest × V)) → AreAtPlaces n p trees → EachKey (λ k. AreBytes k.0 × (place_of n k ≡ p + i)) tree → AreAtPlaces n p (slice_set trees i tree)
  placed_from n p [] i tree h there = tt
  placed_from n p (first ∷ trees) zero tree h there = (each_more _ _ (λ k is. (is.0, omega (arith, is.1))) tree there, h.1)
  placed_from n p (first ∷ trees) (suc i) tree h there = (h.0, placed_from n (p + 1) trees i tree h.1 (each_more _ _ (λ k is. (is.0, omega (arith, is.1))) tree there))

  -- the digests of one of the trees
  pub at_place : (n p : ℕ) (trees : List (List (Digest × V))) (i : ℕ) → AreAtPlaces n p trees → EachKey (λ k. AreBytes k.0 × (place_of n k ≡ p + i)) (get_or trees i [])
  at_place n p [] i h = tt
  at_place n p (tree ∷ trees) zero h = each_more _ _ (λ k is. (is.0, omega (arith, is.1))) tree h.0
  at_place n p (tree ∷ trees) (suc i) h = each_more _ _ (λ k is. (is.0, omega (arith, is.1))) (get_or trees i []) (at_place n (p + 1) trees i h.1)

  -- digests of one place are alike
  pub alike : (n p : ℕ) (es : List (Digest × V)) → EachKey (λ k. AreBytes k.0 × (place_of n k ≡ p)) es → (front : Digest) × EachKey (AgreeBelow n front) es
  alike n p [] h = (record { 0 = [] }, tt)
  alike n p (e ∷ es) h = (e.0, ((λ j low. refl), each_more _ _ (λ k is. same_place n e.0 k (h.0.1 ∙ sym is.1)) es h.1))

  -- trees after others
  pub places_both : (n p : ℕ) (xs ys : List (List (Digest × V))) → AreAtPlaces n p xs → AreAtPlaces n (p + length xs) ys → AreAtPlaces n p (xs ++ ys)
  places_both n p [] ys hx hy = subst (λ q. AreAtPlaces n q ys) (omega arith) hy
  places_both n p (x ∷ xs) ys hx hy = (hx.0, places_both n (p + 1) xs ys hx.1 (subst (λ q. AreAtPlaces n q ys) (omega arith) hy))

  regrouped : (a b c d : List (Digest × V)) → ((a ++ (b ++ [])) ++ (c ++ [])) ++ d ≡ a ++ ((b ++ c) ++ d)
  regrouped a b c d =
      ap (λ es. ((a ++ es) ++ (c ++ [])) ++ d) (append-nil b) ∙ ap (λ es. ((a ++ b) ++ es) ++ d) (append-nil c) ∙ append_assoc (a ++ b) c d ∙ append_assoc a b (c ++ d) ∙ ap (λ es. a ++ es) (sym (append_assoc b c d))

  pub joined_both : (xs ys : List (List (Digest × V))) → joined (xs ++ ys) ≡ joined xs ++ joined ys
  joined_both [] ys = refl
  joined_both (x ∷ xs) ys = ap (λ es. x ++ es) (joined_both xs ys) ∙ sym (append_assoc x (joined xs) (joined ys))

  -- a half of a tree, by one bit more
  pub half_place : (n p : ℕ) (b : Bool) (es : List (Digest × V)) → EachKey (λ k. AreBytes k.0 × (place_of n k ≡ p)) es → EachKey (λ k. bit_of k n ≡ b) es → EachKey (λ k. AreBytes k.0 × (place_of (n + 1) k ≡ 2 * p + digit b)) es
  half_place n p b es h bits =
      each_more _ _ (λ k both. (both.0.0, next_place n k ∙ ap (λ bit. 2 * place_of n k + digit bit) both.1 ∙ ap (λ q. 2 * q + digit b) both.0.1)) es (each_pair _ _ es h bits)

-- a lookup in the tree at the digest's place
pub found_there : {V : Type 0} (n : ℕ) (trees : List (List (Digest × V))) (d : Digest) (i : ℕ) → AreAtPlaces n 0 trees → i ≡ place_of n d → lookup (is_at (digest_cmp d)) (get_or trees i []) ≡ lookup (is_at (digest_cmp d)) (joined trees)
found_there n trees d i h at = found_from n 0 trees d i h (omega (arith, at))

-- no digest is at the place of a tree that is not there
absent_from : {V : Type 0} (n p : ℕ) (trees : List (List (Digest × V))) (d : Digest) → AreAtPlaces n p trees → p + length trees ≤ place_of n d → EachKey (λ k. is_at (digest_cmp d) k ≡ false) (joined trees)
absent_from n p [] d h past = tt
absent_from n p (tree ∷ trees) d h past =
    each_both _ tree (joined trees) (not_in n p tree d h.0 (λ e. omega (arith, e, past))) (absent_from n (p + 1) trees d h.1 (omega (arith, past)))

module _ {V : Type 0} (n : ℕ) (trees : List (List (Digest × V))) (d : Digest) (i : ℕ) (h : AreAtPlaces n 0 trees) (at : i ≡ place_of n d) where
  absent : length trees ≤ i → EachKey (λ k. is_at (digest_cmp d) k ≡ false) (joined trees)
  absent past = absent_from n 0 trees d h (omega (arith, at, past))

  -- a digest whose tree is not there has no value
  pub none_there : length trees ≤ i → None ≡ lookup (is_at (digest_cmp d)) (joined trees)
  none_there past = sym (none_found (is_at (digest_cmp d)) (joined trees) (absent past))

  -- and there is nothing to remove
  pub none_removed : length trees ≤ i → joined trees ≡ remove_entry (is_at (digest_cmp d)) (joined trees)
  none_removed past = sym (remove_none (is_at (digest_cmp d)) (joined trees) (absent past))

  -- the trees after a removal in the tree at the digest's place
  pub removed_there : (tree : List (Digest × V)) → i < length trees → tree ≡ remove_entry (is_at (digest_cmp d)) (get_or trees i [])
      → (joined (slice_set trees i tree) ≡ remove_entry (is_at (digest_cmp d)) (joined trees)) × AreAtPlaces n 0 (slice_set trees i tree)
  removed_there tree low is =
      rw is (removed_from n 0 trees d i h (omega (arith, at)) low, placed_from n 0 trees i _ h (each_remove _ _ (get_or trees i []) (at_place n 0 trees i h)))

  -- the trees after an insertion in the tree at the digest's place
  pub put_there : (v : V) (tree : List (Digest × V)) → AreBytes d.0 → i < length trees → tree ≡ insert_entry digest_cmp (get_or trees i []) d v
      → (joined (slice_set trees i tree) ≡ insert_entry digest_cmp (joined trees) d v) × AreAtPlaces n 0 (slice_set trees i tree)
  put_there v tree bytes low is =
      rw is (put_from n 0 trees d v i bytes h (omega (arith, at)) low, placed_from n 0 trees i _ h (each_insert _ digest_cmp d v (bytes, omega (arith, at)) (get_or trees i []) (at_place n 0 trees i h)))

-- the number of all entries if one tree is replaced
pub length_set : {V : Type 0} (trees : List (List (Digest × V))) (i : ℕ) (tree : List (Digest × V)) → i < length trees → length (joined (slice_set trees i tree)) + length (get_or trees i []) ≡ length (joined trees) + length tree
length_set [] i tree low = absurd (omega (arith, low))
length_set (first ∷ trees) zero tree low = omega (arith, length-append first (joined trees), length-append tree (joined trees))
length_set (first ∷ trees) (suc i) tree low =
    omega (arith, length-append first (joined trees), length-append first (joined (slice_set trees i tree)), length_set trees i tree (omega (arith, low)))

-- the trees by one bit more, after the halves of the next tree
pub record Spread {V : Type 0} (n p : ℕ) (done rest : List (List (Digest × V))) (all : List (Digest × V)) : Type 0 where
  pub places : AreAtPlaces (n + 1) 0 done
  pub count : length done ≡ 2 * p
  pub entries : joined done ++ joined rest ≡ all

pub spread_more : {V : Type 0} (n p : ℕ) (done rest : List (List (Digest × V))) (tree unset set all : List (Digest × V)) → Spread n p done (tree ∷ rest) all → EachKey (λ k. AreBytes k.0 × (place_of n k ≡ p)) tree
    → unset ++ set ≡ tree → EachKey (λ k. bit_of k n ≡ false) unset → EachKey (λ k. bit_of k n ≡ true) set → Spread n (p + 1) ((done ++ unset ∷ []) ++ set ∷ []) rest all
spread_more n p done rest tree unset set all so there both off on =
    let here = subst (EachKey (λ k. AreBytes k.0 × (place_of n k ≡ p))) (sym both) there in
    let off_place = half_place n p false unset (each_left _ unset set here) off in
    let on_place = half_place n p true set (each_right _ unset set here) on in
    let one = length-append done (unset ∷ []) in
    let first = places_both (n + 1) 0 done (unset ∷ []) so.places (each_more _ _ (λ k is. (is.0, omega (arith, is.1, so.count))) unset off_place, tt) in
    record {
      places = places_both (n + 1) 0 (done ++ unset ∷ []) (set ∷ []) first (each_more _ _ (λ k is. (is.0, omega (arith, is.1, so.count, one))) set on_place, tt);
      count = omega (arith, length-append (done ++ unset ∷ []) (set ∷ []), one, so.count);
      entries =
          ap (λ es. es ++ joined rest) (joined_both (done ++ unset ∷ []) (set ∷ []) ∙ ap (λ es. es ++ joined (set ∷ [])) (joined_both done (unset ∷ [])))
          ∙ regrouped (joined done) unset set (joined rest) ∙ ap (λ es. joined done ++ (es ++ joined rest)) both ∙ so.entries;
    }
