-- Entries after an insertion or a replacement.
use Rattle.nw_trie.proofs.Words.{◌≡◌, ◌∙◌, ℕ, ◌≤◌, true, false, List, [], ◌∷◌, ◌++◌, length, refl, sym, ap, arith, AllByRecursion, Ordering, Less, Equal, Greater, match_ordering, ordering_reverse, keys_of, insert_entry, Digest, digest_cmp, digests_total, AreBytes}
use Rattle.std.specs.List.Sorted.{IsStrictlySortedBy}
use Rattle.nw_trie.specs.Bits.{AgreeBelow, bit_of}
use Rattle.nw_trie.specs.Entries.{AreEntries, EachKey, IsFork}
use Rattle.nw_trie.proofs.DigestBits.{digest_less, digest_greater}
use Rattle.nw_trie.proofs.Keys.{each_left, each_right, each_both, each_more, each_pair, each_insert}

itself : (o : Ordering) → o ≡ ordering_reverse o → o ≡ Equal
itself Less e = cc
itself Equal e = refl
itself Greater e = cc

pub digest_equal : (d : Digest) → digest_cmp d d ≡ Equal
digest_equal d = itself (digest_cmp d d) (digests_total.antisymm d d)

module _ {V : Type 0} where
  -- an entry is inserted after the entries with smaller digests
  pub insert_past : (d : Digest) (v : V) (l r : List (Digest × V)) → EachKey (λ k. digest_cmp d k ≡ Greater) l → insert_entry digest_cmp (l ++ r) d v ≡ l ++ insert_entry digest_cmp r d v
  insert_past d v [] r h = refl
  insert_past d v (e ∷ l) r h = rw h.0 (ap (λ es. e ∷ es) (insert_past d v l r h.1))

  -- an entry is inserted before the entries with greater digests
  pub insert_before : (d : Digest) (v : V) (l r : List (Digest × V)) → EachKey (λ k. digest_cmp d k ≡ Less) r → insert_entry digest_cmp (l ++ r) d v ≡ insert_entry digest_cmp l d v ++ r
  insert_before d v [] [] h = refl
  insert_before d v [] (e ∷ r) h = rw h.0 refl
  insert_before d v (e ∷ l) r h =
      elim (digest_cmp d e.0) as (λ o. match_ordering o ((d, v) ∷ e ∷ (l ++ r)) ((e.0, v) ∷ (l ++ r)) (e ∷ insert_entry digest_cmp (l ++ r) d v)
      ≡ match_ordering o ((d, v) ∷ e ∷ l) ((e.0, v) ∷ l) (e ∷ insert_entry digest_cmp l d v) ++ r) [
        | Less ↦ refl
        | Equal ↦ refl
        | Greater ↦ ap (λ es. e ∷ es) (insert_before d v l r h)
      ]

  pub above_all : (x : Digest) (es : List (Digest × V)) → EachKey (λ k. digest_cmp x k ≡ Less) es → AllByRecursion (λ y. digest_cmp x y ≡ Less) (keys_of es)
  above_all x [] h = tt
  above_all x (e ∷ es) h = (h.0, above_all x es h.1)

  pub below_all : (x : Digest) (es : List (Digest × V)) → AllByRecursion (λ y. digest_cmp x y ≡ Less) (keys_of es) → EachKey (λ k. digest_cmp x k ≡ Less) es
  below_all x [] h = tt
  below_all x (e ∷ es) h = (h.0, below_all x es h.1)

  -- after an insertion the digests still ascend
  pub sorted_insert : (d : Digest) (v : V) (es : List (Digest × V)) → IsStrictlySortedBy digest_cmp (keys_of es) → IsStrictlySortedBy digest_cmp (keys_of (insert_entry digest_cmp es d v))
  unfolding IsStrictlySortedBy
  sorted_insert d v [] h = (tt, tt)
  sorted_insert d v (e ∷ es) h =
      elim (digest_cmp d e.0) as (λ o. digest_cmp d e.0 ≡ o → IsStrictlySortedBy digest_cmp (keys_of (match_ordering o ((d, v) ∷ e ∷ es) ((e.0, v) ∷ es) (e ∷ insert_entry digest_cmp es d v)))) [
        | Less ↦ λ is. ((is, above_all d es (each_more _ _ (λ k above. digests_total.trans d e.0 k is above) es (below_all e.0 es h.0))), h)
        | Equal ↦ λ is. h
        | Greater ↦ λ is.
            let less : digest_cmp e.0 d ≡ Less = digests_total.antisymm e.0 d ∙ ap ordering_reverse is in
            (above_all e.0 (insert_entry digest_cmp es d v) (each_insert _ digest_cmp d v less es (below_all e.0 es h.0)), sorted_insert d v es h.1)
      ] refl

  pub entries_insert : (d : Digest) (v : V) (es : List (Digest × V)) → AreBytes d.0 → AreEntries es → AreEntries (insert_entry digest_cmp es d v)
  entries_insert d v es b h = record { ascending = sorted_insert d v es h.ascending; bytes = each_insert _ digest_cmp d v b es h.bytes }

  length_insert : (d : Digest) (v : V) (es : List (Digest × V)) → length es ≤ length (insert_entry digest_cmp es d v)
  length_insert d v [] = omega arith
  length_insert d v (e ∷ es) =
      elim (digest_cmp d e.0) as (λ o. length (e ∷ es) ≤ length (match_ordering o ((d, v) ∷ e ∷ es) ((e.0, v) ∷ es) (e ∷ insert_entry digest_cmp es d v))) [
        | Less ↦ omega arith
        | Equal ↦ omega arith
        | Greater ↦ omega (arith, length_insert d v es)
      ]

  module _ {bit : ℕ} {l r : List (Digest × V)} (fork : IsFork bit l r) (all : AreEntries (l ++ r)) (d : Digest) (v : V) (fits : AgreeBelow bit fork.front d) (bytes : AreBytes d.0) where
    past_left : bit_of d bit ≡ true → EachKey (λ k. digest_cmp d k ≡ Greater) l
    past_left set = each_more _ _ (λ k h. digest_greater d k bit bytes h.0 (λ j low. sym (fits j low) ∙ h.1.0 j low) set h.1.1) l
        (each_pair _ _ l (each_left _ l r all.bytes) (each_pair _ _ l (each_left _ l r fork.agree) fork.unset))

    before_right : bit_of d bit ≡ false → EachKey (λ k. digest_cmp d k ≡ Less) r
    before_right unset = each_more _ _ (λ k h. digest_less d k bit bytes h.0 (λ j low. sym (fits j low) ∙ h.1.0 j low) unset h.1.1) r
        (each_pair _ _ r (each_right _ l r all.bytes) (each_pair _ _ r (each_right _ l r fork.agree) fork.set))

    -- an insertion on one side of a fork
    pub right_insert : bit_of d bit ≡ true → l ++ insert_entry digest_cmp r d v ≡ insert_entry digest_cmp (l ++ r) d v
    right_insert set = sym (insert_past d v l r (past_left set))

    pub left_insert : bit_of d bit ≡ false → insert_entry digest_cmp l d v ++ r ≡ insert_entry digest_cmp (l ++ r) d v
    left_insert unset = sym (insert_before d v l r (before_right unset))

    pub right_fork : bit_of d bit ≡ true → IsFork bit l (insert_entry digest_cmp r d v)
    right_fork set = record {
      left_nonempty = fork.left_nonempty;
      right_nonempty = let full = fork.right_nonempty in omega (arith, length_insert d v r);
      unset = fork.unset;
      set = each_insert _ digest_cmp d v set r fork.set;
      front = fork.front;
      agree = each_both _ l _ (each_left _ l r fork.agree) (each_insert _ digest_cmp d v fits r (each_right _ l r fork.agree));
    }

    pub left_fork : bit_of d bit ≡ false → IsFork bit (insert_entry digest_cmp l d v) r
    left_fork unset = record {
      left_nonempty = let full = fork.left_nonempty in omega (arith, length_insert d v l);
      right_nonempty = fork.right_nonempty;
      unset = each_insert _ digest_cmp d v unset l fork.unset;
      set = fork.set;
      front = fork.front;
      agree = each_both _ _ r (each_insert _ digest_cmp d v fits l (each_left _ l r fork.agree)) (each_right _ l r fork.agree);
    }
