-- The halves of a tree: the digests with a bit unset, and those with the bit set.
use Rattle.nw_trie.proofs.Words.{◌≡◌, ◌∙◌, inl, inr, ℕ, ◌<◌, Bool, true, false, List, [], ◌∷◌, ◌++◌, Box, length, refl, sym, subst, arith, cases_lt, Digest}
use Rattle.nw_trie.specs.Bits.{AgreeBelow, bit_of}
use Rattle.nw_trie.specs.Entries.{EachKey, IsFork, SomeKey}
use Rattle.nw_trie.specs.Tree.{entries_of, IsTree}
use Rattle.nw_trie.specs.declared.tree.Link.{Link}
use Rattle.nw_trie.specs.declared.tree.Link.TheVariants.{Empty, Leaf, Fork}
use Rattle.nw_trie.specs.declared.tree.Sides.{Sides}
use Rattle.nw_trie.proofs.Descents.{same_bit}
use Rattle.nw_trie.proofs.Keys.{each_left, each_right, each_more, each_pair, some_of_each}

module _ {V : Type 0} where
  -- some digest, if there is an entry
  some_there : (es : List (Digest × V)) → 0 < length es → SomeKey (λ k. Unit {0}) es
  some_there [] h = absurd (omega (arith, h))
  some_there (e ∷ es) h = inl tt

  -- if all digests of a list with entries are alike before a bit and have it set or not, so has the front
  front_bit : (bit at : ℕ) (front : Digest) (set : Bool) (es : List (Digest × V)) → at < bit → 0 < length es → EachKey (AgreeBelow bit front) es → EachKey (λ k. bit_of k at ≡ set) es → bit_of front at ≡ set
  front_bit bit at front set es low full alike all =
      let near = some_of_each (λ k. Unit {0}) (λ k. AgreeBelow bit front k × (bit_of k at ≡ set)) es (some_there es full) (each_pair _ _ es alike all) in
      near.2.0 at low ∙ near.2.1

  -- no fork is at a bit below which all its digests are alike
  not_below : (at bit : ℕ) (l r : List (Digest × V)) (front : Digest) → IsFork at l r → EachKey (AgreeBelow bit front) (l ++ r) → at < bit → ⊥
  not_below at bit l r front fork alike low =
      let unset = front_bit bit at front false l low fork.left_nonempty (each_left _ l r alike) fork.unset in
      let set = front_bit bit at front true r low fork.right_nonempty (each_right _ l r alike) fork.set in
      let e : false ≡ true = sym unset ∙ set in cc

-- if all digests of a tree are alike before a bit, and the tree does not fork there, they have the same bit there
pub alike_there : {V A : Type 0} (link : Link V A) (d : List (Digest × V)) → entries_of link ≡ d → IsTree link → (bit : ℕ) → ((sides : Box (Sides V A) A) → link ≡ Fork bit sides → ⊥)
    → (front : Digest) × EachKey (AgreeBelow bit front) d → (set : Bool) × EachKey (λ k. bit_of k bit ≡ set) d
alike_there Empty d is good bit apart alike = (false, subst (EachKey (λ k. bit_of k bit ≡ false)) is tt)
alike_there (Leaf leaf) d is good bit apart alike = (bit_of leaf.value.digest bit, subst (EachKey (λ k. bit_of k bit ≡ bit_of leaf.value.digest bit)) is (refl, tt))
alike_there (Fork at sides) d is good bit apart alike =
    let fork = good.0 in
    elim (cases_lt at bit) [
      | inl low ↦ absurd (not_below at bit sides.value.left sides.value.right alike.0 fork (subst (EachKey _) (sym is) alike.1) low)
      | inr high ↦ elim (cases_lt bit at) [
        | inl above ↦ (bit_of fork.front bit, subst (EachKey (λ k. bit_of k bit ≡ bit_of fork.front bit)) is (each_more _ _ (λ k same. sym (same bit above)) (sides.value.left ++ sides.value.right) fork.agree))
        | inr here ↦ let same : at ≡ bit = omega (arith, high, here) in absurd (apart sides (rw same refl))
      ]
    ]

-- a tree forks at one bit
pub other_fork : {V A : Type 0} {link : Link V A} {at bit : ℕ} {sides : Box (Sides V A) A} → link ≡ Fork at sides → (at ≡ bit → ⊥) → (other : Box (Sides V A) A) → link ≡ Fork bit other → ⊥
other_fork is apart other also = apart (same_bit is also)
