-- How the tables of a store represent a state.
use Rattle.std.specs.Prelude.{◌≡◌, ℕ, ◌⊎◌, List, Some}
use Rattle.std.specs.List.Sorted.{IsStrictlySortedBy}
use Rattle.std.specs.Map.{keys_of}
use Rattle.std.specs.FinMap.{from_entries, get}
use Rattle.nw_digest.specs.declared.digest.Digest.{Digest}
use Rattle.nw_codec.specs.declared.block.Block.{Block}
use Rattle.nw_codec.specs.declared.certificate.Certificate.{Certificate}
use Rattle.nw_rounds.specs.Slots.{Tables}
use Rattle.nw_digest.specs.Order.{digest_cmp, Slot}
use Rattle.nw_model.specs.State.{State, block_slot}
use Rattle.nw_model.specs.Sound.{IsSoundWithIndex}

-- the state with these blocks, certificates, first digests and garbage round
abbrev pub state_of : List (Digest × Block) → List (Digest × Certificate) → Tables → ℕ → State
state_of blocks certificates slots floor = record { blocks = from_entries blocks; certificates = from_entries certificates; firsts = slots.firsts; floor = floor }

-- d is the first digest of the block's slot, or the certified digest of that slot
abbrev pub IsListed : Tables → Digest → Block → Type 0
IsListed slots d b = (get slots.firsts (block_slot b) ≡ Some d) ⊎ (get slots.certified (block_slot b) ≡ Some d)

-- the invariant of the tables of a store
pub record AreStateTables (blocks : List (Digest × Block)) (certificates : List (Digest × Certificate)) (slots : Tables) (floor : ℕ) : Type 0 where
  -- the state is sound, and the slots have exactly the certified digests
  pub kept : IsSoundWithIndex (state_of blocks certificates slots floor) slots.certified
  -- each held block is listed at its slot, as its first or its certified digest
  pub listed : (d : Digest) (b : Block) → get (from_entries {R = digest_cmp} blocks) d ≡ Some b → IsListed slots d b
  -- under the first digest of a slot, a block of that slot is held
  pub voted : (slot : Slot) (d : Digest) → get slots.firsts slot ≡ Some d → (b : Block) × (get (from_entries {R = digest_cmp} blocks) d ≡ Some b) × (block_slot b ≡ slot)
  -- the blocks ascend strictly by digest
  pub blocks_ordered : IsStrictlySortedBy digest_cmp (keys_of blocks)
  -- the certificates ascend strictly by digest
  pub certificates_ordered : IsStrictlySortedBy digest_cmp (keys_of certificates)
