-- What a state has in a slot, and in a round.
use Rattle.std.specs.Prelude.{◌≡◌, ◌↔◌, ◌⊎◌, ℕ, ◌+◌, ◌≤◌, List, length, Option, Some, None, false, IsSome, IsTrue}
use Rattle.std.specs.Option.{option_map_or}
use Rattle.std.specs.declared.cmp.Ordering.{Ordering}
use Rattle.std.specs.Ordering.{nat_cmp}
use Rattle.std.specs.FinMap.{get}
use Rattle.nw_digest.specs.declared.digest.Digest.{Digest}
use Rattle.nw_digest.specs.Order.{Slot}
use Rattle.nw_codec.specs.declared.block.Ref.{Ref}
use Rattle.nw_model.specs.declared.look.Look.{Look}
use Rattle.nw_model.specs.State.{State}
use Rattle.nw_model.specs.Paths.{IsSatisfied, IsComplete}
use Rattle.nw_model.specs.Missing.{AreMissingOf, ListsExactly}
use Rattle.nw_model.specs.declared.wanted.Wanted.{Wanted}
use Rattle.nw_model.specs.Step.{certified_digest, is_held}

-- the slot has a first or a certified digest
abbrev pub HasDigest : State → Slot → Type 0
HasDigest s slot = IsSome (get s.firsts slot) ⊎ IsSome (certified_digest s slot)

-- the newest round with a first or a certified digest, or the garbage round if none is newer
pub record IsNewest (s : State) (round : ℕ) : Type 0 where
  -- the garbage round is not above it
  pub floor : s.floor ≤ round
  -- no digest is above it
  pub last : (slot : Slot) → HasDigest s slot → slot.0 ≤ round
  -- it is the garbage round, or has a digest
  pub some : (round ≡ s.floor) ⊎ ((author : ℕ) × HasDigest s (round, author))

-- how many parents the block under this digest misses. 0 if there is no digest, or if no block is held under it
abbrev pub AreMissed : State → Option Digest → ℕ → Type 0
AreMissed s None count = count ≡ 0
AreMissed s (Some d) count = (missing : Option (List Wanted)) × AreMissingOf s d missing × (count ≡ option_map_or length missing 0)

-- the look has what the state has in the slot
pub record IsLook (s : State) (slot : Slot) (look : Look) : Type 0 where
  -- the garbage round
  pub floor : look.floor ≡ s.floor
  -- the newest round with a digest
  pub newest : IsNewest s look.newest
  -- the slot's first digest, if there is one
  pub first : look.first ≡ get s.firsts slot
  -- how many parents the block under this digest misses
  pub missing : AreMissed s look.first look.missing
  -- the slot's certified digest, if there is one
  pub certified : look.certified ≡ certified_digest s slot
  -- whether a block is held under the certified digest
  pub stands : look.stands ≡ option_map_or (is_held s) look.certified false
  -- whether the certified digest is complete
  pub complete : IsTrue look.complete ↔ ((d : Digest) × (look.certified ≡ Some d) × IsComplete s d)

-- looks by author
abbrev pub look_cmp : ℕ × Look → ℕ × Look → Ordering
look_cmp a b = nat_cmp a.0 b.0

-- an author with a first or a certified digest in this round, and the look at its slot
abbrev pub IsLookIn : State → ℕ → ℕ × Look → Type 0
IsLookIn s round (author, look) = HasDigest s (round, author) × IsLook s (round, author) look

-- the looks at the round: those of exactly the authors with a first or a certified digest in it, by author
abbrev pub AreLooks : State → ℕ → List (ℕ × Look) → Type 0
AreLooks s round looks = ListsExactly look_cmp (IsLookIn s round) looks

-- the look tells which references are satisfied. A reference that names the slot's author, of a block of the next round, is satisfied exactly
-- if its digest is the certified one and stands
abbrev pub TellsSatisfied : State → Slot → Look → Type 0
TellsSatisfied s slot look = (r : Ref) → r.author ≡ slot.1 → IsSatisfied s (slot.0 + 1) r ↔ ((look.certified ≡ Some r.digest) × IsTrue look.stands)
