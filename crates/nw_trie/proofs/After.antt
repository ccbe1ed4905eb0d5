-- The entries that follow a digest.
use Rattle.nw_trie.proofs.Words.{◌≡◌, ◌∙◌, inl, inr, ℕ, true, false, cond, List, [], ◌∷◌, ◌++◌, Option, Some, None, refl, sym, ap, subst, is_at, Less, keys_of, deref_pair, is_eq, ordering_reverse, Digest, digest_cmp, digests_total}
use Rattle.std.specs.List.Sorted.{IsStrictlySortedBy}
use Rattle.std.specs.Option.{option_map}
use denote.Bor.{Bor}
use Rattle.nw_trie.specs.Bits.{bit_of}
use Rattle.nw_trie.specs.Entries.{AreEntries, EachKey, HasKey}
use Rattle.nw_trie.specs.After.{IsNextIn, after, first_entry, entries_from}
use Rattle.nw_trie.proofs.Sides.{AtFork, not_left}
use Rattle.nw_trie.proofs.Inserts.{below_all, digest_equal}
use Rattle.nw_trie.proofs.Grafts.{key_left}

pub here : (k x : Digest) → x ≡ k → is_at (digest_cmp k) x ≡ true
here k x e = ap is_eq (ap (digest_cmp k) e ∙ digest_equal k)

module _ {V : Type 0} (k : Digest) where
  after_past : (l r : List (Digest × V)) → EachKey (λ x. is_at (digest_cmp k) x ≡ false) l → after k (l ++ r) ≡ after k r
  after_past [] r h = refl
  after_past (e ∷ l) r h = rw h.0 (after_past l r h.1)

  after_within : (l r : List (Digest × V)) → HasKey k l → after k (l ++ r) ≡ after k l ++ r
  after_within [] r h = absurd h
  after_within (e ∷ l) r (inl is) = rw (here k e.0 is) refl
  after_within (e ∷ l) r (inr there) =
      elim (is_at (digest_cmp k) e.0) as (λ b. cond b (l ++ r) (after k (l ++ r)) ≡ cond b l (after k l) ++ r) [ true ↦ refl | false ↦ after_within l r there ]

first_or : {V : Type 0} (l r : List (Digest × V)) (e : Digest × V) → first_entry l ≡ Some e → first_entry (l ++ r) ≡ Some e
first_or [] r e h = cc
first_or (x ∷ l) r e h = h

first_then : {V : Type 0} (l r : List (Digest × V)) → first_entry l ≡ None → first_entry (l ++ r) ≡ first_entry r
first_then [] r h = refl
first_then (x ∷ l) r h = cc

module _ {V : Type 0} {d : List (Digest × V)} {bit : ℕ} {l r : List (Digest × V)} (at : AtFork d bit l r) where
  module _ (k : Digest) (has : HasKey k d) where
    pub after_right : bit_of k bit ≡ true → first_entry (after k r) ≡ first_entry (after k d)
    after_right set = sym (ap (λ es. first_entry (after k es)) at.is ∙ ap first_entry (after_past k l r (not_left at k set)))

    left : bit_of k bit ≡ false → after k d ≡ after k l ++ r
    left unset = ap (after k) at.is ∙ after_within k l r (key_left at k has unset)

    pub after_left : (e : Digest × V) → bit_of k bit ≡ false → first_entry (after k l) ≡ Some e → first_entry (after k d) ≡ Some e
    after_left e unset h = ap first_entry (left unset) ∙ first_or (after k l) r e h

    pub after_none : bit_of k bit ≡ false → first_entry (after k l) ≡ None → first_entry (after k d) ≡ first_entry r
    after_none unset h = ap first_entry (left unset) ∙ first_then (after k l) r h

below : (x y : Digest) → digest_cmp x y ≡ Less → is_at (digest_cmp y) x ≡ false
below x y less = ap is_eq (digests_total.antisymm y x ∙ ap ordering_reverse less)

each_after : {V : Type 0} (P : Digest → Type 0) (k : Digest) (es : List (Digest × V)) → EachKey P es → EachKey P (after k es)
each_after P k [] h = tt
each_after P k (e ∷ es) h = elim (is_at (digest_cmp k) e.0) as (λ b. EachKey P (cond b es (after k es))) [ true ↦ h.1 | false ↦ each_after P k es h.1 ]

module _ {V : Type 0} where
  -- the entry after a digest is one of the entries
  has_after : (k : Digest) (es : List (Digest × V)) (e : Digest × V) (rest : List (Digest × V)) → after k es ≡ e ∷ rest → HasKey e.0 es
  has_after k [] e rest is = cc
  has_after k (x ∷ es) e rest is =
      elim (is_at (digest_cmp k) x.0) as (λ b. cond b es (after k es) ≡ e ∷ rest → HasKey e.0 (x ∷ es)) [
        | true ↦ λ h. inr (subst (HasKey e.0) (sym h) (inl refl))
        | false ↦ λ h. inr (has_after k es e rest h)
      ] is

  -- the entries after the next entry are the rest of those after the digest
  after_next : (k : Digest) (es : List (Digest × V)) (e : Digest × V) (rest : List (Digest × V)) → IsStrictlySortedBy digest_cmp (keys_of es) → after k es ≡ e ∷ rest → after e.0 es ≡ rest
  unfolding IsStrictlySortedBy
  after_next k [] e rest sorted is = cc
  after_next k (x ∷ es) e rest sorted is =
      elim (is_at (digest_cmp k) x.0) as (λ b. cond b es (after k es) ≡ e ∷ rest → after e.0 (x ∷ es) ≡ rest) [
        | true ↦ λ h.
            let less = (subst (EachKey (λ y. digest_cmp x.0 y ≡ Less)) h (below_all x.0 es sorted.0)).0 in
            rw (below x.0 e.0 less) (ap (after e.0) h ∙ ap (λ b. cond b rest (after e.0 rest)) (here e.0 e.0 refl))
        | false ↦ λ h.
            let less = (subst (EachKey (λ y. digest_cmp x.0 y ≡ Less)) h (each_after _ k es (below_all x.0 es sorted.0))).0 in
            rw (below x.0 e.0 less) (after_next k es e rest sorted.1 h)
      ] is

  -- at first, an iterator has all entries
  pub from_first : (es : List (Digest × V)) (next : Option (Bor Digest × Bor V)) → option_map deref_pair next ≡ first_entry es → AreEntries es → (entries_from es next ≡ es) × IsNextIn es next
  from_first [] None is all = (refl, tt)
  from_first [] (Some p) is all = cc
  from_first (e ∷ es) None is all = cc
  from_first (e ∷ es) (Some p) is all =
      let same : deref_pair p ≡ e = cc in
      let key : p.0.now ≡ e.0 = ap (λ x. x.0) same in
      let rest : after p.0.now (e ∷ es) ≡ es = ap (λ b. cond b es (after p.0.now es)) (here p.0.now e.0 (sym key)) in
      ((λ i. same i ∷ rest i), (inl (sym key), all))

  from_rest : (k : Digest) (es : List (Digest × V)) (rest : List (Digest × V)) → after k es ≡ rest → (next : Option (Bor Digest × Bor V)) → option_map deref_pair next ≡ first_entry rest → AreEntries es → (entries_from es next ≡ rest) × IsNextIn es next
  from_rest k es [] e None is all = (refl, tt)
  from_rest k es [] e (Some p) is all = cc
  from_rest k es (x ∷ rest) e None is all = cc
  from_rest k es (x ∷ rest) e (Some p) is all =
      let same : deref_pair p ≡ x = cc in
      let there : after k es ≡ deref_pair p ∷ rest = e ∙ ap (λ y. y ∷ rest) (sym same) in
      let following : after p.0.now es ≡ rest = after_next k es (deref_pair p) rest all.ascending there in
      ((λ i. same i ∷ following i), (has_after k es (deref_pair p) rest there, all))

  -- after an entry, an iterator has the entries that follow it
  pub from_after : (k : Digest) (es : List (Digest × V)) (next : Option (Bor Digest × Bor V)) → option_map deref_pair next ≡ first_entry (after k es) → AreEntries es → (entries_from es next ≡ after k es) × IsNextIn es next
  from_after k es next is all = from_rest k es (after k es) refl next is all
