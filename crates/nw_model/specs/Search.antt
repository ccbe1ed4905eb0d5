-- Steps of a search for the ancestors of a block, which goes from blocks to their parents.
use Rattle.std.specs.Prelude.{◌≡◌, ◌<◌, ◌⊎◌, List, Some, All, Contains}
use Rattle.std.specs.FinMap.{FinMap, get}
use Rattle.nw_digest.specs.declared.digest.Digest.{Digest}
use Rattle.nw_codec.specs.declared.block.Ref.{Ref}
use Rattle.nw_codec.specs.declared.block.Block.{Block}
use Rattle.nw_digest.specs.Order.{Slot, slot_cmp}
use Rattle.nw_model.specs.State.{block_slot}
use Rattle.nw_model.specs.View.{Frozen, HasBlock, IsParentIn, IsAncestorIn}

-- the view has a block of this slot under e, not below its floor
abbrev pub IsUnderSlot : Frozen → Slot → Digest → Type 0
IsUnderSlot v slot e = (b : Block) × HasBlock v e b × (block_slot b ≡ slot)

-- each found digest is found under the slot of its block
abbrev pub AreUnderSlots : Frozen → FinMap slot_cmp Digest → Type 0
AreUnderSlots v found = (slot : Slot) (e : Digest) → get found slot ≡ Some e → IsUnderSlot v slot e

-- e is found, under the slot of its block
abbrev pub IsFoundAt : Frozen → FinMap slot_cmp Digest → Digest → Type 0
IsFoundAt v found e = (b : Block) × (get v.blocks e ≡ Some b) × (get found (block_slot b) ≡ Some e)

-- one of the references names e
abbrev pub IsNamed : List Ref → Digest → Type 0
IsNamed refs e = (r : Ref) × Contains refs r × (r.digest ≡ e)

-- e is a parent of one of the digests
abbrev pub IsParentOfAny : Frozen → List Digest → Digest → Type 0
IsParentOfAny v digests e = (d : Digest) × Contains digests d × IsParentIn v d e

-- the view has a block above the floor under each of these digests
abbrev pub AreAbove : Frozen → List Digest → Type 0
AreAbove v digests = All (λ d. (b : Block) × (get v.blocks d ≡ Some b) × (v.floor < b.round)) digests

-- a step of the search finds the digests with P. The map of all found digests grows from old to new. The list of the digests that are new in
-- this round of the search grows from listed to more
pub record Finds (v : Frozen) (P : Digest → Type 0) (old new : FinMap slot_cmp Digest) (listed more : List Digest) : Type 0 where
  -- each digest found before is still found
  pub keeps : (slot : Slot) (e : Digest) → get old slot ≡ Some e → get new slot ≡ Some e
  -- each digest with P is found now
  pub finds : (e : Digest) → P e → IsFoundAt v new e
  -- a digest found only now has P and is listed, and its block has the slot that it is found under
  pub adds : (slot : Slot) (e : Digest) → get new slot ≡ Some e → (get old slot ≡ Some e) ⊎ (Contains more e × P e × IsUnderSlot v slot e)
  -- each digest listed before is still listed
  pub stays : (e : Digest) → Contains listed e → Contains more e
  -- a digest listed only now has P
  pub lists : (e : Digest) → Contains more e → Contains listed e ⊎ P e

-- the search from d is finished: exactly the ancestors of d are found
pub record FindsAncestors (v : Frozen) (d : Digest) (found : FinMap slot_cmp Digest) : Type 0 where
  -- each found digest is found under the slot of its block
  pub under : AreUnderSlots v found
  -- each found digest is an ancestor of d
  pub only : (slot : Slot) (e : Digest) → get found slot ≡ Some e → IsAncestorIn v d e
  -- each ancestor of d is found
  pub each : (e : Digest) → IsAncestorIn v d e → IsFoundAt v found e
