-- Sound states: the properties of every state that a legal history leaves.
use Rattle.std.specs.Prelude.{◌≡◌, ◌↔◌, ◌≤◌, Some}
use Rattle.std.specs.FinMap.{FinMap, get}
use Rattle.nw_digest.specs.declared.digest.Digest.{Digest}
use Rattle.nw_codec.specs.declared.block.Block.{Block}
use Rattle.nw_codec.specs.declared.certificate.Certificate.{Certificate}
use Rattle.nw_digest.specs.Order.{digest_cmp, Slot, slot_cmp}
use Rattle.nw_model.specs.State.{State, block_slot, certificate_slot}

-- each held block is at or above the garbage round
abbrev pub HasNoBlocksBelowFloor : State → Type 0
HasNoBlocksBelowFloor s = (d : Digest) (b : Block) → get s.blocks d ≡ Some b → s.floor ≤ b.round

-- the state is sound
pub record IsSound (s : State) : Type 0 where
  -- each certificate is kept under its own digest
  pub own_digest : (d : Digest) (c : Certificate) → get s.certificates d ≡ Some c → c.digest ≡ d
  -- a block and a certificate under the same digest have the same slot
  pub one_slot : (d : Digest) (b : Block) (c : Certificate) → get s.blocks d ≡ Some b → get s.certificates d ≡ Some c → block_slot b ≡ certificate_slot c
  -- each slot has at most one certified digest
  pub one_certificate : (d e : Digest) (b c : Certificate) → get s.certificates d ≡ Some b → get s.certificates e ≡ Some c → certificate_slot b ≡ certificate_slot c → d ≡ e
  -- no block belongs to a round below the garbage round
  pub blocks_kept : HasNoBlocksBelowFloor s
  -- no certificate belongs to a round below the garbage round
  pub certificates_kept : (d : Digest) (c : Certificate) → get s.certificates d ≡ Some c → s.floor ≤ c.round

-- the index has exactly the certified digest of each slot
abbrev pub IsIndex : FinMap digest_cmp Certificate → FinMap slot_cmp Digest → Type 0
IsIndex certificates index = (slot : Slot) (d : Digest) → (get index slot ≡ Some d) ↔ ((c : Certificate) × (get certificates d ≡ Some c) × (certificate_slot c ≡ slot))

-- the invariant of a store that keeps an index of certified digests beside its state
pub record IsSoundWithIndex (s : State) (index : FinMap slot_cmp Digest) : Type 0 where
  -- the state is sound
  pub sound : IsSound s
  -- the index has exactly the certified digest of each slot
  pub indexed : IsIndex s.certificates index
