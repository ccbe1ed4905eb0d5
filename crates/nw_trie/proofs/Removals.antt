-- Entries after a removal.
use Rattle.nw_trie.proofs.Words.{◌≡◌, ◌∙◌, ℕ, ◌+◌, ◌<◌, Bool, true, false, cond, List, [], ◌∷◌, ◌++◌, Option, Some, length, refl, sym, ap, subst, arith, filter, is_some, keys_of, lookup, remove_entry, is_at, Digest, digest_cmp}
use Rattle.std.specs.List.Sorted.{IsStrictlySortedBy}
use Rattle.std.proofs.lemmas.List.Elements.{filter-append}
use Rattle.nw_trie.specs.Bits.{bit_of}
use Rattle.nw_trie.specs.Entries.{AreEntries, EachKey, IsFork}
use Rattle.nw_trie.proofs.Keys.{each_left, each_right, each_both, each_remove, each_filter}
use Rattle.nw_trie.proofs.Inserts.{above_all, below_all}
use Rattle.nw_trie.proofs.Sides.{AtFork, not_left, not_right}

module _ {V : Type 0} where
  sorted_remove : (test : Digest → Bool) (es : List (Digest × V)) → IsStrictlySortedBy digest_cmp (keys_of es) → IsStrictlySortedBy digest_cmp (keys_of (remove_entry test es))
  unfolding IsStrictlySortedBy
  sorted_remove test [] h = h
  sorted_remove test (e ∷ es) h =
      elim (test e.0) as (λ b. IsStrictlySortedBy digest_cmp (keys_of (cond b es (e ∷ remove_entry test es)))) [
        | true ↦ h.1
        | false ↦ (above_all e.0 (remove_entry test es) (each_remove _ test es (below_all e.0 es h.0)), sorted_remove test es h.1)
      ]

  sorted_filter : (test : Digest × V → Bool) (es : List (Digest × V)) → IsStrictlySortedBy digest_cmp (keys_of es) → IsStrictlySortedBy digest_cmp (keys_of (filter test es))
  unfolding IsStrictlySortedBy
  sorted_filter test [] h = h
  sorted_filter test (e ∷ es) h =
      elim (test e) as (λ b. IsStrictlySortedBy digest_cmp (keys_of (cond b (e ∷ filter test es) (filter test es)))) [
        | true ↦ (above_all e.0 (filter test es) (each_filter _ test es (below_all e.0 es h.0)), sorted_filter test es h.1)
        | false ↦ sorted_filter test es h.1
      ]

  entries_remove : (test : Digest → Bool) (es : List (Digest × V)) → AreEntries es → AreEntries (remove_entry test es)
  entries_remove test es h = record { ascending = sorted_remove test es h.ascending; bytes = each_remove _ test es h.bytes }

  entries_filter : (test : Digest × V → Bool) (es : List (Digest × V)) → AreEntries es → AreEntries (filter test es)
  entries_filter test es h = record { ascending = sorted_filter test es h.ascending; bytes = each_filter _ test es h.bytes }

  pub remove_past : (test : Digest → Bool) (l r : List (Digest × V)) → EachKey (λ k. test k ≡ false) l → remove_entry test (l ++ r) ≡ l ++ remove_entry test r
  remove_past test [] r h = refl
  remove_past test (e ∷ l) r h = rw h.0 (ap (λ es. e ∷ es) (remove_past test l r h.1))

  pub remove_none : (test : Digest → Bool) (es : List (Digest × V)) → EachKey (λ k. test k ≡ false) es → remove_entry test es ≡ es
  remove_none test [] h = refl
  remove_none test (e ∷ es) h = rw h.0 (ap (λ rest. e ∷ rest) (remove_none test es h.1))

  pub remove_before : (test : Digest → Bool) (l r : List (Digest × V)) → EachKey (λ k. test k ≡ false) r → remove_entry test (l ++ r) ≡ remove_entry test l ++ r
  remove_before test [] r h = remove_none test r h
  remove_before test (e ∷ l) r h =
      elim (test e.0) as (λ b. cond b (l ++ r) (e ∷ remove_entry test (l ++ r)) ≡ cond b l (e ∷ remove_entry test l) ++ r) [
        | true ↦ refl
        | false ↦ ap (λ es. e ∷ es) (remove_before test l r h)
      ]

  -- a removal takes out one entry, if the digest has one
  length_remove : (test : Digest → Bool) (es : List (Digest × V)) → length (remove_entry test es) + cond (is_some (lookup test es)) 1 0 ≡ length es
  length_remove test [] = refl
  length_remove test (e ∷ es) =
      elim (test e.0) as (λ b. length (cond b es (e ∷ remove_entry test es)) + cond (is_some (cond b (Some e.1) (lookup test es))) 1 0 ≡ length (e ∷ es)) [
        | true ↦ omega arith
        | false ↦ omega (arith, length_remove test es)
      ]

-- the number of entries after a removal, given the value that it returned
pub removed : {V : Type 0} (test : Digest → Bool) (d es new : List (Digest × V)) (value : Option V) → es ≡ d → value ≡ lookup test es → new ≡ remove_entry test es → length new + cond (is_some value) 1 0 ≡ length d
removed test d es new value is found left = rw (left, found, ← is) (length_remove test es)

-- both sides of a fork after a removal; `rest` has the entries that stay
pub record Shrunk {V : Type 0} (rest : List (Digest × V)) (bit : ℕ) (l r : List (Digest × V)) : Type 0 where
  pub is : l ++ r ≡ rest
  pub fork : 0 < length l → 0 < length r → IsFork bit l r
  pub all : AreEntries (l ++ r)

module _ {V : Type 0} {d : List (Digest × V)} {bit : ℕ} {l r : List (Digest × V)} (at : AtFork d bit l r) where
  module _ (k : Digest) where
    pub shrunk_right : (r2 : List (Digest × V)) → bit_of k bit ≡ true → r2 ≡ remove_entry (is_at (digest_cmp k)) r → Shrunk (remove_entry (is_at (digest_cmp k)) d) bit l r2
    shrunk_right r2 set e =
        let there = remove_past (is_at (digest_cmp k)) l r (not_left at k set) in
        rw e (record {
          is = sym (ap (remove_entry (is_at (digest_cmp k))) at.is ∙ there);
          fork = λ left right. record {
            left_nonempty = left;
            right_nonempty = right;
            unset = at.fork.unset;
            set = each_remove _ _ r at.fork.set;
            front = at.fork.front;
            agree = each_both _ l _ (each_left _ l r at.fork.agree) (each_remove _ _ r (each_right _ l r at.fork.agree));
          };
          all = subst AreEntries there (entries_remove (is_at (digest_cmp k)) (l ++ r) at.all);
        })

    pub shrunk_left : (l2 : List (Digest × V)) → bit_of k bit ≡ false → l2 ≡ remove_entry (is_at (digest_cmp k)) l → Shrunk (remove_entry (is_at (digest_cmp k)) d) bit l2 r
    shrunk_left l2 unset e =
        let there = remove_before (is_at (digest_cmp k)) l r (not_right at k unset) in
        rw e (record {
          is = sym (ap (remove_entry (is_at (digest_cmp k))) at.is ∙ there);
          fork = λ left right. record {
            left_nonempty = left;
            right_nonempty = right;
            unset = each_remove _ _ l at.fork.unset;
            set = at.fork.set;
            front = at.fork.front;
            agree = each_both _ _ r (each_remove _ _ l (each_left _ l r at.fork.agree)) (each_right _ l r at.fork.agree);
          };
          all = subst AreEntries there (entries_remove (is_at (digest_cmp k)) (l ++ r) at.all);
        })

  pub shrunk_both : (test : Digest × V → Bool) (l2 r2 : List (Digest × V)) → l2 ≡ filter test l → r2 ≡ filter test r → Shrunk (filter test d) bit l2 r2
  shrunk_both test l2 r2 el er =
      let there = filter-append test l r in
      rw (el, er) (record {
        is = sym (ap (filter test) at.is ∙ there);
        fork = λ left right. record {
          left_nonempty = left;
          right_nonempty = right;
          unset = each_filter _ test l at.fork.unset;
          set = each_filter _ test r at.fork.set;
          front = at.fork.front;
          agree = each_both _ _ _ (each_filter _ test l (each_left _ l r at.fork.agree)) (each_filter _ test r (each_right _ l r at.fork.agree));
        };
        all = subst AreEntries there (entries_filter test (l ++ r) at.all);
      })
