-- Views: frozen blocks and a floor, the ancestors in them, and which state a view shows.
use Rattle.std.specs.Prelude.{◌≡◌, ◌↔◌, ℕ, ◌+◌, ◌<◌, ◌≤◌, ◌⊎◌, List, [], ◌∷◌, Some, None, All, Contains, refl}
use Rattle.std.specs.Coded.{Coded, code_by, coded×, coded_ℕ}
use Rattle.std.specs.FinMap as map
use Rattle.std.specs.FinMap.{FinMap, get, insert}
use Rattle.nw_digest.specs.declared.digest.Digest.{Digest}
use Rattle.nw_codec.specs.declared.block.Ref.{Ref}
use Rattle.nw_codec.specs.declared.block.Block.{Block}
use Rattle.nw_digest.specs.Codes.{coded_digest}
use Rattle.nw_digest.specs.Order.{digest_cmp}
use Rattle.nw_model.specs.State.{State, block_slot, coded_block}
use Rattle.nw_model.specs.Paths.{IsComplete, Lists}

-- a view: frozen blocks and a floor
pub record Frozen : Type 0 where
  -- the blocks, by digest
  pub blocks : FinMap digest_cmp Block
  -- the floor: blocks of lower rounds do not count
  pub floor : ℕ

-- the code of a view
abbrev pub coded_frozen : Coded Frozen
coded_frozen = code_by (FinMap digest_cmp Block × ℕ) (coded× (map.code coded_digest coded_block) coded_ℕ) (λ v. (v.blocks, v.floor)) (λ p. record { blocks = p.0; floor = p.1 }) (λ _. refl)

-- the blocks contain the parent that a reference r of a block of this round names, with the named author and the preceding round
abbrev pub HasParent : FinMap digest_cmp Block → ℕ → Ref → Type 0
HasParent blocks round r = (parent : Block) × (get blocks r.digest ≡ Some parent) × (parent.author ≡ r.author) × (parent.round + 1 ≡ round)

-- the view is closed
pub record IsClosed (v : Frozen) : Type 0 where
  -- each parent of a block above the floor is in the view, with the named author and the preceding round
  pub parents : (d : Digest) (b : Block) → get v.blocks d ≡ Some b → v.floor < b.round → All (HasParent v.blocks b.round) b.parents
  -- no two blocks at or above the floor share a slot
  pub apart : (d e : Digest) (b c : Block) → get v.blocks d ≡ Some b → get v.blocks e ≡ Some c → v.floor ≤ b.round → block_slot b ≡ block_slot c → d ≡ e

-- the view has the block b under d, at or above its floor
abbrev pub HasBlock : Frozen → Digest → Block → Type 0
HasBlock v d b = (get v.blocks d ≡ Some b) × (v.floor ≤ b.round)

-- e is a parent of d in the view: d's block is above the floor and has a reference to e
abbrev pub IsParentIn : Frozen → Digest → Digest → Type 0
IsParentIn v d e = (b : Block) × (r : Ref) × (get v.blocks d ≡ Some b) × (v.floor < b.round) × Contains b.parents r × (r.digest ≡ e)

-- a path in the view leads by these digests from one digest to another. Each step leads to a parent, and the last block is not below
-- the floor
abbrev pub IsPathIn : Frozen → Digest → List Digest → Digest → Type 0
IsPathIn v from [] to = ((b : Block) × HasBlock v from b) × (from ≡ to)
IsPathIn v from (next ∷ path) to = IsParentIn v from next × IsPathIn v next path to

-- a is an ancestor of d in the view: some path in it leads from d to a
abbrev pub IsAncestorIn : Frozen → Digest → Digest → Type 0
IsAncestorIn v d a = (path : List Digest) × IsPathIn v d path a

-- the walk of d: the blocks of exactly its ancestors in the view, strictly ascending by round and author
abbrev pub IsWalk : Frozen → Digest → List Block → Type 0
IsWalk v d blocks = Lists v.blocks (IsAncestorIn v d) blocks

-- the view shows the state
pub record Shows (v : Frozen) (s : State) : Type 0 where
  -- its floor is the garbage round
  pub floor : v.floor ≡ s.floor
  -- from that round on, its blocks are exactly the complete ones
  pub complete : (d : Digest) (b : Block) → HasBlock v d b ↔ ((get s.blocks d ≡ Some b) × (s.floor ≤ b.round) × IsComplete s d)

-- these are exactly the complete blocks of the state
abbrev pub AreComplete : State → FinMap digest_cmp Block → Type 0
AreComplete s blocks = (d : Digest) (b : Block) → (get blocks d ≡ Some b) ↔ ((get s.blocks d ≡ Some b) × IsComplete s d)

-- the block is not above the garbage round, or these blocks contain each of its parents
abbrev pub IsCompletedBy : State → FinMap digest_cmp Block → Block → Type 0
IsCompletedBy s blocks b = (b.round ≤ s.floor) ⊎ All (HasParent blocks b.round) b.parents

-- new is old with the block under d, if one is held and old completes it (IsCompletedBy); otherwise new is old
abbrev pub AddsIfComplete : State → FinMap digest_cmp Block → FinMap digest_cmp Block → Digest → Type 0
AddsIfComplete s old new d = ((get s.blocks d ≡ None) × (new ≡ old))
    ⊎ ((b : Block) × (get s.blocks d ≡ Some b) × ((IsCompletedBy s old b × (new ≡ insert old d b)) ⊎ ((IsCompletedBy s old b → ⊥) × (new ≡ old))))
