-- The two sides of a fork.
use Rattle.nw_trie.proofs.Words.{◌≡◌, ◌∙◌, inl, inr, ℕ, ◌+◌, Bool, true, false, cond, List, [], ◌∷◌, ◌++◌, Option, Some, None, Box, refl, sym, ap, subst, arith, is_eq, Ordering, Less, Equal, Greater, MatchOption, lookup, is_at, cases_lt, Digest, digest_cmp}
use Rattle.nw_trie.specs.Bits.{AgreeBelow, bit_of}
use Rattle.nw_trie.specs.Entries.{AreEntries, BranchesAt, EachKey, HasKey, IsFork}
use Rattle.nw_trie.specs.Tree.{entries_of, IsTree}
use Rattle.nw_trie.specs.declared.tree.Entry.{Entry}
use Rattle.nw_trie.specs.declared.tree.Link.{Link}
use Rattle.nw_trie.specs.declared.tree.Link.TheVariants.{Leaf, Fork}
use Rattle.nw_trie.specs.declared.tree.Sides.{Sides}
use Rattle.nw_trie.proofs.DigestBits.{same_bits}
use Rattle.nw_trie.proofs.Keys.{each_left, each_right, each_both, each_more, each_pair, some_left, some_right, some_of_each}

-- the entries d of a tree whose link is a fork
pub record AtFork {V : Type 0} (d : List (Digest × V)) (bit : ℕ) (l r : List (Digest × V)) : Type 0 where
  pub is : d ≡ l ++ r
  pub fork : IsFork bit l r
  pub all : AreEntries (l ++ r)

pub at_Fork : {V A : Type 0} {link : Link V A} {d : List (Digest × V)} {bit : ℕ} {sides : Box (Sides V A) A} {s : Sides V A}
    → entries_of link ≡ d → IsTree link → link ≡ Fork bit sides → s ≡ sides.value → AtFork d bit s.left s.right
at_Fork {V} {A} {bit = bit} view_is good at unboxed = record {
  is = sym view_is ∙ ap entries_of at ∙ ap (λ (x : Sides V A). x.left ++ x.right) (sym unboxed);
  fork = subst (λ (x : Sides V A). IsFork bit x.left x.right) (sym unboxed) (subst IsTree at good).0;
  all = subst (λ (x : Sides V A). AreEntries (x.left ++ x.right)) (sym unboxed) (subst IsTree at good).1;
}

pub at_Leaf : {V A : Type 0} {link : Link V A} {d : List (Digest × V)} {leaf : Box (Entry V) A} {e : Entry V}
    → entries_of link ≡ d → link ≡ Leaf leaf → e ≡ leaf.value → d ≡ (e.digest, e.value) ∷ []
at_Leaf {V} view_is at unboxed = sym view_is ∙ ap entries_of at ∙ ap (λ (x : Entry V). (x.digest, x.value) ∷ []) (sym unboxed)

module _ {V : Type 0} where
  -- a lookup passes the entries that do not match
  pub lookup_past : (test : Digest → Bool) (l r : List (Digest × V)) → EachKey (λ k. test k ≡ false) l → lookup test (l ++ r) ≡ lookup test r
  lookup_past test [] r h = refl
  lookup_past test (e ∷ l) r h = rw h.0 (lookup_past test l r h.1)

  pub none_found : (test : Digest → Bool) (es : List (Digest × V)) → EachKey (λ k. test k ≡ false) es → lookup test es ≡ None
  none_found test [] h = refl
  none_found test (e ∷ es) h = rw h.0 (none_found test es h.1)

  pub lookup_before : (test : Digest → Bool) (l r : List (Digest × V)) → EachKey (λ k. test k ≡ false) r → lookup test (l ++ r) ≡ lookup test l
  lookup_before test [] r h = none_found test r h
  lookup_before test (e ∷ l) r h = ap (cond (test e.0) (Some e.1)) (lookup_before test l r h)

-- digests that differ in a bit do not compare as equal
pub unlike : (o : Ordering) → (o ≡ Equal → ⊥) → is_eq o ≡ false
unlike Less h = refl
unlike Equal h = absurd (h refl)
unlike Greater h = refl

pub other_bit : (d k : Digest) (bit : ℕ) (b c : Bool) → bit_of d bit ≡ b → bit_of k bit ≡ c → (b ≡ c → ⊥) → is_at (digest_cmp d) k ≡ false
other_bit d k bit b c hd hk apart = unlike (digest_cmp d k) (λ e. apart (sym hd ∙ same_bits d k e bit ∙ hk))

module _ {V : Type 0} {d : List (Digest × V)} {bit : ℕ} {l r : List (Digest × V)} (at : AtFork d bit l r) (k : Digest) where
  pub not_left : bit_of k bit ≡ true → EachKey (λ x. is_at (digest_cmp k) x ≡ false) l
  not_left set = each_more _ _ (λ x unset. other_bit k x bit true false set unset (λ e. cc)) l at.fork.unset

  pub not_right : bit_of k bit ≡ false → EachKey (λ x. is_at (digest_cmp k) x ≡ false) r
  not_right unset = each_more _ _ (λ x set. other_bit k x bit false true unset set (λ e. cc)) r at.fork.set

  pub lookup_right : bit_of k bit ≡ true → lookup (is_at (digest_cmp k)) r ≡ lookup (is_at (digest_cmp k)) d
  lookup_right set = sym (ap (lookup (is_at (digest_cmp k))) at.is ∙ lookup_past _ l r (not_left set))

  pub lookup_left : bit_of k bit ≡ false → lookup (is_at (digest_cmp k)) l ≡ lookup (is_at (digest_cmp k)) d
  lookup_left unset = sym (ap (lookup (is_at (digest_cmp k))) at.is ∙ lookup_before _ l r (not_right unset))

-- if both sides agree below the fork's bit, a digest that branches off on one side is apart from the other side
apart_from_other : {V : Type 0} (d front : Digest) (bit n : ℕ) (this other : List (Digest × V)) → EachKey (AgreeBelow bit front) this → EachKey (λ k. AgreeBelow bit front k × (bit_of d bit ≡ bit_of k bit → ⊥)) other
    → BranchesAt d n this → EachKey (λ k. AgreeBelow (n + 1) d k → ⊥) other
apart_from_other d front bit n this other here there b =
    each_more _ _ (λ k far same. elim (cases_lt n bit) [
      | inr late ↦ far.1 (same bit (omega arith))
      | inl early ↦
          let near = some_of_each (AgreeBelow n d) (λ x. AgreeBelow bit front x × (AgreeBelow (n + 1) d x → ⊥)) this b.near (each_pair _ _ this here b.apart) in
          near.2.1 (λ j h. same j h ∙ sym (far.0 j (omega arith)) ∙ near.2.0 j (omega arith))
    ]) other there

module _ {V : Type 0} {d : List (Digest × V)} {bit : ℕ} {l r : List (Digest × V)} (at : AtFork d bit l r) (k : Digest) where
  differ_left : bit_of k bit ≡ true → EachKey (λ x. AgreeBelow bit at.fork.front x × (bit_of k bit ≡ bit_of x bit → ⊥)) l
  differ_left set = each_pair _ _ l (each_left _ l r at.fork.agree) (each_more _ _ (λ x unset e. let f : true ≡ false = sym set ∙ e ∙ unset in cc) l at.fork.unset)

  differ_right : bit_of k bit ≡ false → EachKey (λ x. AgreeBelow bit at.fork.front x × (bit_of k bit ≡ bit_of x bit → ⊥)) r
  differ_right unset = each_pair _ _ r (each_right _ l r at.fork.agree) (each_more _ _ (λ x set e. let f : false ≡ true = sym unset ∙ e ∙ set in cc) r at.fork.set)

  branches_right : (n : ℕ) → bit_of k bit ≡ true → BranchesAt k n r → BranchesAt k n d
  branches_right n set b = subst (BranchesAt k n) (sym at.is) (record {
    near = some_right _ l r b.near;
    apart = each_both _ l r (apart_from_other k at.fork.front bit n r l (each_right _ l r at.fork.agree) (differ_left set) b) b.apart;
  })

  branches_left : (n : ℕ) → bit_of k bit ≡ false → BranchesAt k n l → BranchesAt k n d
  branches_left n unset b = subst (BranchesAt k n) (sym at.is) (record {
    near = some_left _ l r b.near;
    apart = each_both _ l r b.apart (apart_from_other k at.fork.front bit n l r (each_left _ l r at.fork.agree) (differ_right unset) b);
  })

  pub branch_right : (o : Option ℕ) → bit_of k bit ≡ true → MatchOption o (HasKey k r) (λ n. BranchesAt k n r) → MatchOption o (HasKey k d) (λ n. BranchesAt k n d)
  branch_right None set h = subst (HasKey k) (sym at.is) (some_right _ l r h)
  branch_right (Some n) set h = branches_right n set h

  pub branch_left : (o : Option ℕ) → bit_of k bit ≡ false → MatchOption o (HasKey k l) (λ n. BranchesAt k n l) → MatchOption o (HasKey k d) (λ n. BranchesAt k n d)
  branch_left None unset h = subst (HasKey k) (sym at.is) (some_left _ l r h)
  branch_left (Some n) unset h = branches_left n unset h
