-- Tries of sample blocks, for tests to freeze.
use Rattle.std.specs.Prelude.{◌≡◌, ℕ, ◌+◌, ◌*◌, ◌<◌, List, Some, All, replicate}
use Rattle.std.specs.FinMap.{FinMap, get}
use Rattle.nw_digest.specs.declared.digest.Digest.{Digest}
use Rattle.nw_codec.specs.declared.block.Ref.{Ref}
use Rattle.nw_codec.specs.declared.block.Block.{Block}
use Rattle.nw_digest.specs.Order.{digest_cmp, Slot}
use Rattle.nw_model.specs.State.{block_slot}

-- the digest of the sample block of the slot
unfoldable pub name_of : Slot → Digest
name_of slot = record { 0 = replicate 32 (16 * slot.0 + slot.1) }

-- each block is under the digest of its slot
abbrev pub AreNamed : FinMap digest_cmp Block → Type 0
AreNamed blocks = (d : Digest) (b : Block) → get blocks d ≡ Some b → d ≡ name_of (block_slot b)

-- blocks of round 0 of at least the authors below n
pub record AreBases (n : ℕ) (blocks : FinMap digest_cmp Block) : Type 0 where
  -- each block is under the digest of its slot
  pub named : AreNamed blocks
  -- all blocks are of round 0
  pub first : (d : Digest) (b : Block) → get blocks d ≡ Some b → b.round ≡ 0
  -- there is a block of each author below n
  pub held : (author : ℕ) → author < n → (b : Block) × (get blocks (name_of (0, author)) ≡ Some b) × (b.author ≡ author) × (b.round ≡ 0)

-- each reference is to the block of round 0 of an author below n
abbrev pub NameBases : ℕ → List Ref → Type 0
NameBases n refs = All (λ r. (r.author < n) × (r.digest ≡ name_of (0, r.author))) refs

-- blocks of round 1 over blocks of round 0 of authors below n
pub record AreNext (n : ℕ) (blocks : FinMap digest_cmp Block) : Type 0 where
  -- each block is under the digest of its slot
  pub named : AreNamed blocks
  -- all blocks are of round 1
  pub second : (d : Digest) (b : Block) → get blocks d ≡ Some b → b.round ≡ 1
  -- their references are to blocks of round 0 of authors below n
  pub parents : (d : Digest) (b : Block) → get blocks d ≡ Some b → NameBases n b.parents
