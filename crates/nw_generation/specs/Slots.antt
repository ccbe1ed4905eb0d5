-- Blocks by round and author.
use Rattle.std.specs.Prelude.{◌≡◌, List, Some, All}
use Rattle.nw_digest.specs.declared.digest.Digest.{Digest}
use Rattle.nw_codec.specs.declared.block.Block.{Block}
use Rattle.nw_generation.specs.declared.slots.SlottedBlock.{SlottedBlock}
use Rattle.nw_generation.specs.Entries.{under}

-- the entries have each slot's block under the slot's digest
abbrev pub AreSlotsOf : List SlottedBlock → List (Digest × Block) → Type 0
AreSlotsOf slots entries = All (λ (s : SlottedBlock). under entries s.digest ≡ Some s.block) slots
