-- Paths: the ancestors of a digest, its causal list, and which digests are complete.
use Rattle.std.specs.Prelude.{◌≡◌, ◌↔◌, ℕ, ◌+◌, ◌<◌, List, [], ◌∷◌, Some, IsSome, All, Contains, map}
use Rattle.std.specs.List.Sorted.{IsStrictlySortedBy}
use Rattle.std.specs.FinMap.{FinMap, get}
use Rattle.std.specs.declared.cmp.Ordering.{Ordering}
use Rattle.nw_digest.specs.declared.digest.Digest.{Digest}
use Rattle.nw_codec.specs.declared.block.Ref.{Ref}
use Rattle.nw_codec.specs.declared.block.Block.{Block}
use Rattle.nw_digest.specs.Order.{digest_cmp, slot_cmp}
use Rattle.nw_model.specs.State.{State, block_slot}

-- the order of blocks: by round, then by author
abbrev pub block_cmp : Block → Block → Ordering
block_cmp a b = slot_cmp (block_slot a) (block_slot b)

-- d stands, with block b: b is held under d, and d is certified
abbrev pub IsStanding : State → Digest → Block → Type 0
IsStanding s d b = (get s.blocks d ≡ Some b) × IsSome (get s.certificates d)

-- a reference r of a block of this round is satisfied: r's digest stands, with a block of the named author and the preceding round
abbrev pub IsSatisfied : State → ℕ → Ref → Type 0
IsSatisfied s round r = (parent : Block) × IsStanding s r.digest parent × (parent.author ≡ r.author) × (parent.round + 1 ≡ round)

-- e is a parent of d: d stands, and its block has a satisfied reference to e
abbrev pub IsParent : State → Digest → Digest → Type 0
IsParent s d e = (b : Block) × (r : Ref) × IsStanding s d b × Contains b.parents r × IsSatisfied s b.round r × (r.digest ≡ e)

-- a path leads by these digests from one digest to another: it starts at a digest that stands, and each step leads to a parent
abbrev pub IsPath : State → Digest → List Digest → Digest → Type 0
IsPath s from [] to = ((b : Block) × IsStanding s from b) × (from ≡ to)
IsPath s from (next ∷ path) to = IsParent s from next × IsPath s next path to

-- a is an ancestor of d: some path leads from d to a
abbrev pub IsAncestor : State → Digest → Digest → Type 0
IsAncestor s d a = (path : List Digest) × IsPath s d path a

-- d is complete
pub record IsComplete (s : State) (d : Digest) : Type 0 where
  -- d stands
  pub stands : (b : Block) × IsStanding s d b
  -- the block of each ancestor above the garbage round has all its references satisfied
  pub whole : (a : Digest) (b : Block) → IsAncestor s d a → IsStanding s a b → s.floor < b.round → All (IsSatisfied s b.round) b.parents

-- the list contains the held blocks of exactly the digests with P, in order
pub record Lists (held : FinMap digest_cmp Block) (P : Digest → Type 0) (blocks : List Block) : Type 0 where
  -- the digests of the listed blocks
  pub digests : List Digest
  -- each listed block is held under the digest at the same place
  pub found : map (get held) digests ≡ map Some blocks
  -- these digests are exactly the digests with P
  pub exactly : (a : Digest) → Contains digests a ↔ P a
  -- the blocks ascend strictly by round and author
  pub ascending : IsStrictlySortedBy block_cmp blocks

-- the causal list of d: the blocks of exactly its ancestors, strictly ascending by round and author
abbrev pub IsCausalList : State → Digest → List Block → Type 0
IsCausalList s d blocks = Lists s.blocks (IsAncestor s d) blocks
