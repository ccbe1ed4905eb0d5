-- How a digest descends to its place, and the entries after an insertion there.
use Rattle.nw_trie.proofs.Words.{◌≡◌, ◌∙◌, inl, inr, ℕ, ◌+◌, ◌<◌, ◌≤◌, Bool, true, false, cond, List, [], ◌∷◌, ◌++◌, Option, Some, None, Box, length, refl, sym, ap, subst, arith, length-append, is_eq, match_ordering, Equal, MatchOption, lookup, insert_entry, is_at, cases_lt, Digest, digest_cmp, AreBytes}
use Rattle.nw_trie.specs.declared.tree.Entry.{Entry}
use Rattle.nw_trie.specs.declared.tree.Link.{Link}
use Rattle.nw_trie.specs.declared.tree.Link.TheVariants.{Empty, Leaf, Fork}
use Rattle.nw_trie.specs.declared.tree.Sides.{Sides}
use Rattle.nw_trie.specs.Bits.{AgreeBelow, DifferFirst, bit_of}
use Rattle.nw_trie.specs.Entries.{AreEntries, BranchesAt, EachKey, HasKey, IsFork, SomeKey}
use Rattle.nw_trie.specs.Tree.{entries_of, IsTree, side_of, with_side}
use Rattle.nw_trie.proofs.Keys.{each_left, each_right, each_more, each_pair, some_side, some_of_each}
use Rattle.nw_trie.proofs.Inserts.{digest_equal, entries_insert, left_fork, left_insert, right_fork, right_insert}
use Rattle.nw_trie.proofs.Sides.{AtFork, at_Leaf}

-- digests that also share bit n agree below n + 1
agree_more : (n : ℕ) (a b : Digest) → AgreeBelow n a b → bit_of a n ≡ bit_of b n → AgreeBelow (n + 1) a b
agree_more n a b same bit j h = elim (cases_lt j n) [ inl before ↦ same j before | inr at ↦ let is : j ≡ n = omega arith in rw is bit ]

-- if all digests agree below a later bit, a digest that branches off first differs from each of them at its bit
pub each_differ : {V : Type 0} (k front : Digest) (bit n : ℕ) (es : List (Digest × V)) → EachKey (AgreeBelow n front) es → bit ≤ n → BranchesAt k bit es → EachKey (λ x. DifferFirst bit k x) es
each_differ k front bit n es agree low b =
    let near = some_of_each (AgreeBelow bit k) (AgreeBelow n front) es b.near agree in
    each_more _ _ (λ x h.
    let same : AgreeBelow bit k x = λ j below. near.1 j below ∙ sym (near.2 j (omega arith)) ∙ h.0 j (omega arith) in
    let differ : DifferFirst bit k x = record { same = same; differ = λ e. h.1 (agree_more bit k x same e) } in
    differ) es (each_pair _ _ es agree b.apart)

pub differ_alone : {V A : Type 0} (k : Digest) (bit : ℕ) (link : Link V A) → ((at : ℕ) (sides : Box (Sides V A) A) → link ≡ Fork at sides → ⊥) → BranchesAt k bit (entries_of link) → EachKey (λ x. DifferFirst bit k x) (entries_of link)
differ_alone k bit Empty no_fork b = tt
differ_alone k bit (Leaf leaf) no_fork b = each_differ k leaf.value.digest bit bit ((leaf.value.digest, leaf.value.value) ∷ []) ((λ j h. refl), tt) (omega arith) b
differ_alone k bit (Fork at sides) no_fork b = absurd (no_fork at sides refl)

-- a digest branches off from a leaf at the first bit at which they differ
pub branch_leaf : {V : Type 0} (k x : Digest) (v : V) (o : Option ℕ) → MatchOption o (k ≡ x) (λ bit. DifferFirst bit k x) → MatchOption o (HasKey k ((x, v) ∷ [])) (λ bit. BranchesAt k bit ((x, v) ∷ []))
branch_leaf k x v None h = inl (sym h)
branch_leaf k x v (Some bit) h = record { near = inl h.same; apart = ((λ agree. h.differ (agree bit (omega arith))), tt) }

-- both sides of a fork after an entry is inserted in one of them; d has the entries before the insertion
pub record Grown {V : Type 0} (d : List (Digest × V)) (bit : ℕ) (l r : List (Digest × V)) (k : Digest) (v : V) : Type 0 where
  pub is : l ++ r ≡ insert_entry digest_cmp d k v
  pub fork : IsFork bit l r
  pub all : AreEntries (l ++ r)

module _ {V : Type 0} {d : List (Digest × V)} {bit : ℕ} {l r : List (Digest × V)} (at : AtFork d bit l r) (k : Digest) where
  pub sides_shorter : (length l < length d) × (length r < length d)
  sides_shorter = let full = at.fork.left_nonempty in let full2 = at.fork.right_nonempty in omega (arith, ap length at.is, length-append l r)

  module _ (v : V) (fits : AgreeBelow bit at.fork.front k) (bytes : AreBytes k.0) where
    pub grown_right : (r2 : List (Digest × V)) → bit_of k bit ≡ true → r2 ≡ insert_entry digest_cmp r k v → Grown d bit l r2 k v
    grown_right r2 set e =
        let there = right_insert at.fork at.all k v fits bytes set in
        rw e (record {
          is = there ∙ ap (λ es. insert_entry digest_cmp es k v) (sym at.is);
          fork = right_fork at.fork at.all k v fits bytes set;
          all = subst AreEntries (sym there) (entries_insert k v (l ++ r) bytes at.all);
        })

    pub grown_left : (l2 : List (Digest × V)) → bit_of k bit ≡ false → l2 ≡ insert_entry digest_cmp l k v → Grown d bit l2 r k v
    grown_left l2 unset e =
        let there = left_insert at.fork at.all k v fits bytes unset in
        rw e (record {
          is = there ∙ ap (λ es. insert_entry digest_cmp es k v) (sym at.is);
          fork = left_fork at.fork at.all k v fits bytes unset;
          all = subst AreEntries (sym there) (entries_insert k v (l ++ r) bytes at.all);
        })

  -- if k shares the fork's bit with each digest of property P, then such a digest is on the side of k's own bit
  near_right : (P : Digest → Type 0) → ((x : Digest) → P x → bit_of k bit ≡ bit_of x bit) → bit_of k bit ≡ true → SomeKey P d → SomeKey P r
  near_right P same set h =
      elim (some_side P l r (subst (SomeKey P) at.is h)) [
        | inl on_left ↦ let x = some_of_each P (λ x. bit_of x bit ≡ false) l on_left at.fork.unset in let e : true ≡ false = sym set ∙ same x.0 x.1 ∙ x.2 in cc
        | inr on_right ↦ on_right
      ]

  near_left : (P : Digest → Type 0) → ((x : Digest) → P x → bit_of k bit ≡ bit_of x bit) → bit_of k bit ≡ false → SomeKey P d → SomeKey P l
  near_left P same unset h =
      elim (some_side P l r (subst (SomeKey P) at.is h)) [
        | inl on_left ↦ on_left
        | inr on_right ↦ let x = some_of_each P (λ x. bit_of x bit ≡ true) r on_right at.fork.set in let e : false ≡ true = sym unset ∙ same x.0 x.1 ∙ x.2 in cc
      ]

  fits_near : (P : Digest → Type 0) → ((x : Digest) → P x → AgreeBelow bit k x) → SomeKey P d → AgreeBelow bit at.fork.front k
  fits_near P same h =
      let x = some_of_each P (AgreeBelow bit at.fork.front) (l ++ r) (subst (SomeKey P) at.is h) at.fork.agree in
      λ j low. x.2 j low ∙ sym (same x.0 x.1 j low)

  module _ (n : ℕ) (later : bit < n) (b : BranchesAt k n d) where
    pub fits_branch : AgreeBelow bit at.fork.front k
    fits_branch = fits_near (AgreeBelow n k) (λ x h j low. h j (omega arith)) b.near

    pub down_right : bit_of k bit ≡ true → BranchesAt k n r
    down_right set = record { near = near_right (AgreeBelow n k) (λ x h. h bit later) set b.near; apart = each_right _ l r (subst (EachKey _) at.is b.apart) }

    pub down_left : bit_of k bit ≡ false → BranchesAt k n l
    down_left unset = record { near = near_left (AgreeBelow n k) (λ x h. h bit later) unset b.near; apart = each_left _ l r (subst (EachKey _) at.is b.apart) }

  module _ (has : HasKey k d) where
    pub fits_key : AgreeBelow bit at.fork.front k
    fits_key = fits_near (λ x. x ≡ k) (λ x e j low. ap (λ y. bit_of y j) (sym e)) has

    pub key_right : bit_of k bit ≡ true → HasKey k r
    key_right set = near_right (λ x. x ≡ k) (λ x e. ap (λ y. bit_of y bit) (sym e)) set has

    pub key_left : bit_of k bit ≡ false → HasKey k l
    key_left unset = near_left (λ x. x ≡ k) (λ x e. ap (λ y. bit_of y bit) (sym e)) unset has

-- a digest goes down on the side of its bit, and an entry inserted on that side is in its place
module _ {V A : Type 0} {d : List (Digest × V)} {bit : ℕ} (s : Sides V A) (at : AtFork d bit s.left s.right) (k : Digest) where
  pub down_side : (n : ℕ) → bit < n → BranchesAt k n d → (set : Bool) → set ≡ bit_of k bit → (length (side_of s set) < length d) × BranchesAt k n (side_of s set)
  down_side n later b true h = ((sides_shorter at k).1, down_right at k n later b (sym h))
  down_side n later b false h = ((sides_shorter at k).0, down_left at k n later b (sym h))

  pub grown_side : (v : V) → AgreeBelow bit at.fork.front k → AreBytes k.0 → (set : Bool) → set ≡ bit_of k bit → (es : List (Digest × V)) → es ≡ insert_entry digest_cmp (side_of s set) k v
      → Grown d bit (with_side s set es).left (with_side s set es).right k v
  grown_side v fits bytes true h es is = grown_right at k v fits bytes es (sym h) is
  grown_side v fits bytes false h es is = grown_left at k v fits bytes es (sym h) is

-- lookup and replacement in a leaf
module _ {V : Type 0} (k x : Digest) (u v : V) (has : HasKey k ((x, u) ∷ [])) where
  same_key : x ≡ k
  same_key = elim has [ inl is ↦ is | inr none ↦ absurd none ]

  ties : digest_cmp k x ≡ Equal
  ties = ap (digest_cmp k) same_key ∙ digest_equal k

  leaf_found : lookup (is_at (digest_cmp k)) ((x, u) ∷ []) ≡ Some u
  leaf_found = ap (λ o. cond (is_eq o) (Some u) None) ties

  leaf_replaced : (x, v) ∷ [] ≡ insert_entry digest_cmp ((x, u) ∷ []) k v
  leaf_replaced = sym (ap (λ o. match_ordering o ((k, v) ∷ (x, u) ∷ []) ((x, v) ∷ []) ((x, u) ∷ (k, v) ∷ [])) ties)

-- the only entry of a leaf, before and after its value is replaced
pub record AtLeaf {V : Type 0} (d : List (Digest × V)) (k x : Digest) (u v : V) : Type 0 where
  pub found : lookup (is_at (digest_cmp k)) d ≡ Some u
  pub is : (x, v) ∷ [] ≡ insert_entry digest_cmp d k v
  pub all : AreEntries ((x, v) ∷ [])

pub at_leaf : {V A : Type 0} {link : Link V A} {d : List (Digest × V)} {leaf : Box (Entry V) A} {e : Entry V} (k : Digest) (v : V)
    → entries_of link ≡ d → IsTree link → link ≡ Leaf leaf → e ≡ leaf.value → HasKey k d → AtLeaf d k e.digest e.value v
at_leaf {V} {e = e} k v view_is good at unboxed has =
    let alone = at_Leaf view_is at unboxed in
    let here = subst (HasKey k) alone has in
    let all : AreEntries ((e.digest, e.value) ∷ []) = subst (λ (x : Entry V). AreEntries ((x.digest, x.value) ∷ [])) (sym unboxed) (subst IsTree at good) in
    record {
      found = ap (lookup (is_at (digest_cmp k))) alone ∙ leaf_found k e.digest e.value v here;
      is = leaf_replaced k e.digest e.value v here ∙ ap (λ es. insert_entry digest_cmp es k v) (sym alone);
      all = record { ascending = all.ascending; bytes = all.bytes };
    }
