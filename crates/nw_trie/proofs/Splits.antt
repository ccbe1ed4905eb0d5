-- A new fork between a leaf and all other entries.
use Rattle.nw_trie.proofs.Words.{◌≡◌, ◌∙◌, ℕ, ◌<◌, Bool, true, false, List, [], ◌∷◌, ◌++◌, None, Box, length, refl, sym, ap, subst, arith, lookup, insert_entry, is_at, Digest, digest_cmp, AreBytes}
use Rattle.std.specs.List.Sorted.{IsStrictlySortedBy}
use Rattle.std.proofs.lemmas.List.{append-nil}
use Rattle.nw_trie.specs.declared.tree.Entry.{Entry}
use Rattle.nw_trie.specs.declared.tree.Link.{Link}
use Rattle.nw_trie.specs.declared.tree.Link.TheVariants.{Empty, Leaf, Fork}
use Rattle.nw_trie.specs.declared.tree.Sides.{Sides}
use Rattle.nw_trie.specs.Bits.{AgreeBelow, DifferFirst, bit_of}
use Rattle.nw_trie.specs.Entries.{AreEntries, BranchesAt, EachKey, IsFork}
use Rattle.nw_trie.specs.Tree.{entries_of, IsTree}
use Rattle.nw_trie.proofs.DigestBits.{digest_less, digest_greater, same_bits}
use Rattle.nw_trie.proofs.Keys.{each_both, each_more, each_pair}
use Rattle.nw_trie.proofs.Sides.{none_found, unlike}
use Rattle.nw_trie.proofs.Inserts.{entries_insert, insert_before, insert_past}

no_entries : {V : Type 0} → AreEntries {V = V} []
unfolding IsStrictlySortedBy
no_entries = record { ascending = tt; bytes = tt }

pub tree_entries : {V A : Type 0} (link : Link V A) (d : List (Digest × V)) → entries_of link ≡ d → IsTree link → AreEntries d
tree_entries Empty d is good = subst AreEntries is no_entries
tree_entries (Leaf leaf) d is good = subst AreEntries is good
tree_entries (Fork bit sides) d is good = subst AreEntries is good.1

-- a link that is neither a fork nor a leaf has no entries
pub none_there : {V A : Type 0} (link : Link V A) → ((bit : ℕ) (sides : Box (Sides V A) A) → link ≡ Fork bit sides → ⊥) → ((leaf : Box (Entry V) A) → link ≡ Leaf leaf → ⊥) → entries_of link ≡ []
none_there Empty no_fork no_leaf = refl
none_there (Leaf leaf) no_fork no_leaf = absurd (no_leaf leaf refl)
none_there (Fork bit sides) no_fork no_leaf = absurd (no_fork bit sides refl)

other : (b c : Bool) → b ≡ true → (b ≡ c → ⊥) → c ≡ false
other b true is apart = absurd (apart is)
other b false is apart = refl

other_way : (b c : Bool) → b ≡ false → (b ≡ c → ⊥) → c ≡ true
other_way b true is apart = refl
other_way b false is apart = absurd (apart is)

one : {V : Type 0} (d : Digest) (leaf : List (Digest × V)) → (v : V) × (leaf ≡ (d, v) ∷ []) → (P : List (Digest × V) → Type 0) → ((v : V) → P ((d, v) ∷ [])) → P leaf
one d leaf is P h = subst P (sym is.1) (h is.0)

module _ {V : Type 0} (d : Digest) (bit : ℕ) (es : List (Digest × V)) (differ : EachKey (λ k. DifferFirst bit d k) es) (full : 0 < length es) (all : AreEntries es) (bytes : AreBytes d.0) where
  agree : EachKey (AgreeBelow bit d) es
  agree = each_more _ _ (λ k h. h.same) es differ

  unset : bit_of d bit ≡ true → EachKey (λ k. bit_of k bit ≡ false) es
  unset set = each_more _ _ (λ k h. other (bit_of d bit) (bit_of k bit) set h.differ) es differ

  set : bit_of d bit ≡ false → EachKey (λ k. bit_of k bit ≡ true) es
  set clear = each_more _ _ (λ k h. other_way (bit_of d bit) (bit_of k bit) clear h.differ) es differ

  above : bit_of d bit ≡ true → EachKey (λ k. digest_cmp d k ≡ Rattle.std.specs.declared.cmp.Ordering.TheVariants.Greater) es
  above on = each_more _ _ (λ k h. digest_greater d k bit bytes h.0 h.1.0 on h.1.1) es (each_pair _ _ es all.bytes (each_pair _ _ es agree (unset on)))

  below : bit_of d bit ≡ false → EachKey (λ k. digest_cmp d k ≡ Rattle.std.specs.declared.cmp.Ordering.TheVariants.Less) es
  below off = each_more _ _ (λ k h. digest_less d k bit bytes h.0 h.1.0 off h.1.1) es (each_pair _ _ es all.bytes (each_pair _ _ es agree (set off)))

  pub after_all : bit_of d bit ≡ true → (v : V) → es ++ (d, v) ∷ [] ≡ insert_entry digest_cmp es d v
  after_all on v = sym (insert_past d v es [] (above on)) ∙ ap (λ x. insert_entry digest_cmp x d v) (append-nil es)

  pub before_all : bit_of d bit ≡ false → (v : V) → (d, v) ∷ es ≡ insert_entry digest_cmp es d v
  before_all off v = sym (insert_before d v [] es (below off))

  module _ (leaf : List (Digest × V)) (is : (v : V) × (leaf ≡ (d, v) ∷ [])) where
    pub fork_after : bit_of d bit ≡ true → IsFork bit es leaf
    fork_after on = one d leaf is (IsFork bit es) (λ v. record {
      left_nonempty = full;
      right_nonempty = omega arith;
      unset = unset on;
      set = (on, tt);
      front = d;
      agree = each_both _ es _ agree ((λ j low. refl), tt);
    })

    pub fork_before : bit_of d bit ≡ false → IsFork bit leaf es
    fork_before off = one d leaf is (λ l. IsFork bit l es) (λ v. record {
      left_nonempty = omega arith;
      right_nonempty = full;
      unset = (off, tt);
      set = set off;
      front = d;
      agree = ((λ j low. refl), agree);
    })

    pub entries_after : bit_of d bit ≡ true → AreEntries (es ++ leaf)
    entries_after on = one d leaf is (λ l. AreEntries (es ++ l)) (λ v. subst AreEntries (sym (after_all on v)) (entries_insert d v es bytes all))

    pub entries_before : bit_of d bit ≡ false → AreEntries (leaf ++ es)
    entries_before off = one d leaf is (λ l. AreEntries (l ++ es)) (λ v. subst AreEntries (sym (before_all off v)) (entries_insert d v es bytes all))

-- a leaf's only entry is well formed
pub leaf_entries : {V : Type 0} (e : Entry V) (d : Digest) (v : V) → AreBytes d.0 → e ≡ record { digest = d; value = v } → AreEntries ((e.digest, e.value) ∷ [])
leaf_entries e d v bytes is = rw is (entries_insert d v [] bytes no_entries)

-- a digest that branches off has no entry
pub absent_branch : {V : Type 0} (k : Digest) (bit : ℕ) (d es : List (Digest × V)) → es ≡ d → BranchesAt k bit es → lookup (is_at (digest_cmp k)) d ≡ None
absent_branch k bit d es is b =
    ap (lookup (is_at (digest_cmp k))) (sym is) ∙ none_found _ es (each_more _ _ (λ x apart. unlike (digest_cmp k x) (λ e. apart (λ j h. same_bits k x e j))) es b.apart)
