-- The entries of a tree, and the trees that are well formed.
use Rattle.std.specs.Prelude.{◌<◌, length, Bool, true, false, List, [], ◌∷◌, ◌++◌}
use Rattle.nw_digest.specs.declared.digest.Digest.{Digest}
use Rattle.nw_trie.specs.declared.tree.Link.{Link}
use Rattle.nw_trie.specs.declared.tree.Link.TheVariants.{Empty, Leaf, Fork}
use Rattle.nw_trie.specs.declared.tree.Sides.{Sides}
use Rattle.nw_trie.specs.Entries.{AreEntries, IsFork}

module _ {V A : Type 0} where
  -- the entries of the tree with this link, in order
  abbrev pub entries_of : Link V A → List (Digest × V)
  entries_of Empty = []
  entries_of (Leaf leaf) = (leaf.value.digest, leaf.value.value) ∷ []
  entries_of (Fork bit sides) = sides.value.left ++ sides.value.right

  -- the tree is well formed: its digests ascend. If it is a fork, both sides have entries, and those with the fork's bit unset are on the left
  abbrev pub IsTree : Link V A → Type 0
  IsTree Empty = Unit {0}
  IsTree (Leaf leaf) = AreEntries ((leaf.value.digest, leaf.value.value) ∷ [])
  IsTree (Fork bit sides) = IsFork bit sides.value.left sides.value.right × AreEntries (sides.value.left ++ sides.value.right)

  -- the same, except that a side of the fork may be empty
  abbrev pub IsNearlyTree : Link V A → Type 0
  IsNearlyTree Empty = Unit {0}
  IsNearlyTree (Leaf leaf) = AreEntries ((leaf.value.digest, leaf.value.value) ∷ [])
  IsNearlyTree (Fork bit sides) = (0 < length sides.value.left → 0 < length sides.value.right → IsFork bit sides.value.left sides.value.right) × AreEntries (sides.value.left ++ sides.value.right)

  -- the side for this value of the bit
  abbrev pub side_of : Sides V A → Bool → List (Digest × V)
  side_of s true = s.right
  side_of s false = s.left

  -- the sides, with w in place of the side for this value of the bit
  abbrev pub with_side : Sides V A → Bool → List (Digest × V) → Sides V A
  with_side s true w = record { left = s.left; right = w }
  with_side s false w = record { left = w; right = s.right }
