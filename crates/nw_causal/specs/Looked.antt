-- Ancestors that were looked up: digests with their blocks.
use Rattle.std.specs.Prelude.{◌≡◌, ◌↔◌, ◌⊎◌, ℕ, List, Some, All, Contains, map}
use Rattle.std.specs.List.Sorted.{IsStrictlySortedBy}
use Rattle.std.specs.FinMap.{get}
use Rattle.std.specs.declared.cmp.Ordering.{Ordering}
use Rattle.nw_digest.specs.declared.digest.Digest.{Digest}
use Rattle.nw_codec.specs.declared.block.Block.{Block}
use Rattle.nw_model.specs.Paths.{block_cmp}
use Rattle.nw_model.specs.View.{Frozen, HasBlock, IsAncestorIn}
use Rattle.nw_causal.specs.declared.ancestor.Ancestor.{Ancestor}

-- the digests of the ancestors, in order
abbrev pub digests : List Ancestor → List Digest
digests = map (λ (a : Ancestor). a.digest.now)

-- the blocks of the ancestors, in order
abbrev pub blocks : List Ancestor → List Block
blocks = map (λ (a : Ancestor). a.block.now)

-- each ancestor has the view's block under its digest
abbrev pub AreAt : Frozen → List Ancestor → Type 0
AreAt v = All (λ (a : Ancestor). get v.blocks a.digest.now ≡ Some a.block.now)

-- the view has each ancestor's block under its digest, at or above the floor
abbrev pub AreUnderTheirDigests : Frozen → List Ancestor → Type 0
AreUnderTheirDigests v = All (λ (a : Ancestor). HasBlock v a.digest.now a.block.now)

-- the descending order by round, and then by author
abbrev pub descending : Ancestor → Ancestor → Ordering
descending a b = block_cmp b.block.now a.block.now

-- ancestors of one round
pub record IsLevel (v : Frozen) (round : ℕ) (level : List Ancestor) : Type 0 where
  -- their blocks are the view's
  pub at : AreAt v level
  -- their blocks are of the round
  pub rounds : All (λ (a : Ancestor). a.block.now.round ≡ round) level
  -- they descend strictly by author
  pub order : IsStrictlySortedBy descending level

-- exactly the ancestors of d
pub record AreFound (v : Frozen) (d : Digest) (found : List Ancestor) : Type 0 where
  -- their blocks are the view's
  pub at : AreAt v found
  -- their digests are exactly the ancestors of d
  pub exactly : (e : Digest) → Contains (digests found) e ↔ IsAncestorIn v d e
  -- they descend strictly by round and author
  pub order : IsStrictlySortedBy descending found

-- the new list has the digests of the old list and those with property P, and no others
abbrev pub Gains : (Digest → Type 0) → List Ancestor → List Ancestor → Type 0
Gains P old new = (e : Digest) → Contains (digests new) e ↔ (Contains (digests old) e ⊎ P e)
