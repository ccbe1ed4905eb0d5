-- Wanted parents, the missing parents of a block, and the counts of a state.
use Rattle.std.specs.Prelude.{◌≡◌, ◌↔◌, ℕ, ◌+◌, ◌<◌, List, Option, Some, None, Contains, length, take}
use Rattle.std.specs.List.Sorted.{IsStrictlySortedBy}
use Rattle.std.specs.FinMap.{get, len}
use Rattle.std.specs.declared.cmp.Ordering.{Ordering}
use Rattle.std.specs.Ordering.{nat_cmp, ordering_then}
use Rattle.nw_digest.specs.declared.digest.Digest.{Digest}
use Rattle.nw_codec.specs.declared.block.Ref.{Ref}
use Rattle.nw_codec.specs.declared.block.Block.{Block}
use Rattle.nw_model.specs.declared.wanted.Wanted.{Wanted}
use Rattle.nw_digest.specs.Order.{digest_cmp}
use Rattle.nw_model.specs.State.{State}
use Rattle.nw_model.specs.Paths.{IsSatisfied, IsComplete}
use Rattle.nw_model.specs.declared.reply.Counts.{Counts}

-- wanted parents by round, then by author, then by digest
abbrev pub wanted_cmp : Wanted → Wanted → Ordering
wanted_cmp a b = ordering_then (nat_cmp a.round b.round) (ordering_then (nat_cmp a.author b.author) (digest_cmp a.digest b.digest))

-- the reference r of a block of this round names the parent w: w has r's author and digest, and the preceding round
abbrev pub IsNamedBy : ℕ → Ref → Wanted → Type 0
IsNamedBy round r w = (w.round + 1 ≡ round) × (w.author ≡ r.author) × (w.digest ≡ r.digest)

-- the block b wants the parent w: b is above the garbage round, and one of its references names w and is not satisfied
abbrev pub Wants : State → Block → Wanted → Type 0
Wants s b w = (s.floor < b.round) × (r : Ref) × Contains b.parents r × (IsSatisfied s b.round r → ⊥) × IsNamedBy b.round r w

-- the parent w is wanted: some held block wants it
abbrev pub IsWanted : State → Wanted → Type 0
IsWanted s w = (d : Digest) × (b : Block) × (get s.blocks d ≡ Some b) × Wants s b w

-- the list has exactly the values with P, in order
pub record ListsExactly {A : Type 0} (cmp : A → A → Ordering) (P : A → Type 0) (xs : List A) : Type 0 where
  -- a value is in the list exactly when it has P
  pub exactly : (x : A) → Contains xs x ↔ P x
  -- the values ascend strictly
  pub ascending : IsStrictlySortedBy cmp xs

-- exactly n values have P
abbrev pub HasCount : {A : Type 0} → (A → A → Ordering) → (A → Type 0) → ℕ → Type 0
HasCount {A} cmp P n = (xs : List A) × ListsExactly cmp P xs × (length xs ≡ n)

-- the list has the first `most` wanted parents by round, author and digest, or all of them if there are fewer
abbrev pub AreFirstWanted : State → ℕ → List Wanted → Type 0
AreFirstWanted s most first = (all : List Wanted) × ListsExactly wanted_cmp (IsWanted s) all × (first ≡ take most all)

-- the missing parents of the block under d: exactly those that it wants, in order. None if no block is held under d
abbrev pub AreMissingOf : State → Digest → Option (List Wanted) → Type 0
AreMissingOf s d None = get s.blocks d ≡ None
AreMissingOf s d (Some missing) = (b : Block) × (get s.blocks d ≡ Some b) × ListsExactly wanted_cmp (Wants s b) missing

-- the counts are those of the state
pub record AreCounts (s : State) (counts : Counts) : Type 0 where
  -- the garbage round
  pub floor : counts.floor ≡ s.floor
  -- how many blocks are held
  pub blocks : counts.blocks ≡ len s.blocks
  -- how many certificates there are
  pub certificates : counts.certificates ≡ len s.certificates
  -- how many digests are complete
  pub complete : HasCount digest_cmp (IsComplete s) counts.complete
  -- how many parents are wanted
  pub wanted : HasCount wanted_cmp (IsWanted s) counts.wanted
