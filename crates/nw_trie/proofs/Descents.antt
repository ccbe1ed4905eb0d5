-- How a lookup descends to the value of a digest.
use Rattle.nw_trie.proofs.Words.{Bor, suc, ◌≡◌, ◌∙◌, inl, inr, ℕ, ◌+◌, ◌<◌, Bool, true, false, cond, List, Option, Some, None, [], ◌∷◌, ◌++◌, Box, length, refl, sym, ap, subst, arith, keys_of, lookup, is_some, option_copied, is_eq, ordering_reverse, Less, Equal, Greater, insert_entry, is_at, cases_lt, Digest, digest_cmp, digests_total}
use Rattle.std.specs.List.Sorted.{IsStrictlySortedBy}
use Rattle.nw_trie.specs.declared.tree.Link.{Link}
use Rattle.nw_trie.specs.declared.tree.Link.TheVariants.{Empty, Leaf, Fork}
use Rattle.nw_trie.specs.declared.tree.Sides.{Sides}
use Rattle.nw_trie.specs.Bits.{AgreeBelow, AgreeButLast, bit_of}
use Rattle.nw_trie.specs.Entries.{EachKey, HasKey, IsFork}
use Rattle.nw_trie.specs.Tree.{side_of}
use Rattle.nw_trie.proofs.DigestBits.{one_digest}
use Rattle.nw_trie.proofs.Keys.{each_left, each_right, each_more, each_pair, some_of_each}
use Rattle.nw_trie.proofs.Inserts.{below_all, digest_equal}
use Rattle.nw_trie.proofs.Sides.{AtFork, lookup_left, lookup_right}
use Rattle.nw_trie.proofs.Grafts.{fits_key, key_left, key_right}

-- the bit of a link, if it is a fork
abbrev bit_in : {V A : Type 0} → Link V A → ℕ
bit_in Empty = 0
bit_in (Leaf leaf) = 0
bit_in (Fork bit sides) = bit

pub same_bit : {V A : Type 0} {link : Link V A} {m n : ℕ} {s t : Box (Sides V A) A} → link ≡ Fork m s → link ≡ Fork n t → m ≡ n
same_bit a b = sym (ap bit_in a) ∙ ap bit_in b

first_has : {V : Type 0} (P : Digest → Type 0) (es : List (Digest × V)) → 0 < length es → EachKey P es → (k : Digest) × P k
first_has P [] full h = absurd (omega (arith, full))
first_has P (e ∷ es) full h = (e.0, h.0)

module _ {V : Type 0} (k : Digest) (bit n : ℕ) (l r : List (Digest × V)) (fork : IsFork bit l r) (alike : EachKey (AgreeButLast n k) (l ++ r)) where
  -- digests that differ only in their last bits fork at one of those
  pub parted_late : bit + n < 256 → ⊥
  parted_late low =
      let x = first_has _ l fork.left_nonempty (each_pair _ _ l (each_left _ l r alike) fork.unset) in
      let y = first_has _ r fork.right_nonempty (each_pair _ _ r (each_right _ l r alike) fork.set) in
      let e : false ≡ true = sym x.1.1 ∙ sym (x.1.0 bit low) ∙ y.1.0 bit low ∙ y.1.1 in
      cc

module _ {V A : Type 0} {d : List (Digest × V)} {bit : ℕ} (s : Sides V A) (at : AtFork d bit s.left s.right) (k : Digest) where
  pub lookup_side : (set : Bool) → set ≡ bit_of k bit → lookup (is_at (digest_cmp k)) (side_of s set) ≡ lookup (is_at (digest_cmp k)) d
  lookup_side true h = lookup_right at k (sym h)
  lookup_side false h = lookup_left at k (sym h)

  module _ (has : HasKey k d) where
    pub key_side : (set : Bool) → set ≡ bit_of k bit → HasKey k (side_of s set)
    key_side true h = key_right at k has (sym h)
    key_side false h = key_left at k has (sym h)

    module _ (n : ℕ) (alike : EachKey (AgreeButLast (1 + n) k) d) where
      -- a digest that has the same bits as k up to the fork's bit differs from k at most in the last n bits
      more_alike : (x : Digest) → AgreeBelow bit at.fork.front x → bit_of x bit ≡ bit_of k bit → AgreeButLast n k x
      more_alike x same there j early =
          elim (cases_lt j bit) [
            | inl below ↦ sym (fits_key at k has j below) ∙ same j below
            | inr past ↦ elim (cases_lt bit j) [
              | inl later ↦ absurd (parted_late k bit (1 + n) s.left s.right at.fork (subst (EachKey _) at.is alike) (omega arith))
              | inr here ↦ let is : j ≡ bit = omega arith in rw is (sym there)
            ]
          ]

      pub alike_side : (set : Bool) → set ≡ bit_of k bit → EachKey (AgreeButLast n k) (side_of s set)
      alike_side true h = each_more _ _ (λ x p. more_alike x p.0 (p.1 ∙ h)) s.right (each_pair _ _ s.right (each_right _ s.left s.right at.fork.agree) at.fork.set)
      alike_side false h = each_more _ _ (λ x p. more_alike x p.0 (p.1 ∙ h)) s.left (each_pair _ _ s.left (each_left _ s.left s.right at.fork.agree) at.fork.unset)

pub copied_some : {V : Type 0} (o : Option (Bor V)) → is_some (option_copied o) ≡ is_some o
copied_some None = refl
copied_some (Some v) = refl

module _ {V : Type 0} (k : Digest) where
  -- if a lookup finds the digest, some entry has it
  pub has_found : (es : List (Digest × V)) → is_some (lookup (is_at (digest_cmp k)) es) ≡ true → HasKey k es
  has_found [] h = cc
  has_found (e ∷ es) h =
      elim (digest_cmp k e.0) as (λ o. digest_cmp k e.0 ≡ o → is_some (cond (is_eq o) (Some e.1) (lookup (is_at (digest_cmp k)) es)) ≡ true → HasKey k (e ∷ es)) [
        | Less ↦ λ is there. inr (has_found es there)
        | Equal ↦ λ is there. inl (sym (one_digest k e.0 is))
        | Greater ↦ λ is there. inr (has_found es there)
      ] refl h

  -- replacing the value of a digest keeps the number of entries
  pub length_replaced : (v : V) (es : List (Digest × V)) → IsStrictlySortedBy digest_cmp (keys_of es) → HasKey k es → length (insert_entry digest_cmp es k v) ≡ length es
  unfolding IsStrictlySortedBy
  length_replaced v [] sorted has = absurd has
  length_replaced v (e ∷ es) sorted (inl here) =
      let is : digest_cmp k e.0 ≡ Equal = ap (digest_cmp k) here ∙ digest_equal k in
      rw is refl
  length_replaced v (e ∷ es) sorted (inr there) =
      let x = some_of_each (λ x. x ≡ k) (λ x. digest_cmp e.0 x ≡ Less) es there (below_all e.0 es sorted.0) in
      let is : digest_cmp k e.0 ≡ Greater = digests_total.antisymm k e.0 ∙ ap ordering_reverse (ap (digest_cmp e.0) (sym x.1) ∙ x.2) in
      rw is (ap suc (length_replaced v es sorted.1 there))
