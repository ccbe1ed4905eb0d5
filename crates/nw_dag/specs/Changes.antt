-- What the single stages of a call change in the tables.
use Rattle.std.specs.Prelude.{◌≡◌, ◌↔◌, ◌⊎◌, List, ◌++◌, Some, Contains}
use Rattle.std.specs.List.{IsDistinct}
use Rattle.std.specs.Ordering.{eq_by_cmp}
use Rattle.std.specs.FinMap.{get}
use Rattle.nw_digest.specs.declared.digest.Digest.{Digest}
use Rattle.nw_codec.specs.declared.block.Block.{Block}
use Rattle.nw_waiting.specs.Pairs.{Pairs, Lacks, without_wanted}
use Rattle.nw_model.specs.declared.wanted.Wanted.{Wanted}
use Rattle.nw_digest.specs.Order.{digest_cmp}
use Rattle.nw_model.specs.State.{State}
use Rattle.nw_state.specs.Standing.{name_of}
use Rattle.nw_dag.specs.Lacking.{IsReady}

-- the sets have the same pairs, except those of the holder
abbrev pub AreSameExcept : Digest → Pairs → Pairs → Type 0
AreSameExcept holder old new = (h : Digest) (w : Wanted) → (h ≡ holder → ⊥) → Lacks new h w ↔ Lacks old h w

-- the holder now also lacks the named parents that do not have Q, and nothing else changes
pub record LacksAlso (Q named : Wanted → Type 0) (holder : Digest) (old new : Pairs) : Type 0 where
  -- the holder lacks each named parent, unless the parent has Q
  pub each : (w : Wanted) → named w → Lacks new holder w ⊎ Q w
  -- each new pair is of the holder and of a named parent without Q
  pub only : (h : Digest) (w : Wanted) → Lacks new h w → Lacks old h w ⊎ ((h ≡ holder) × named w × (Q w → ⊥))
  -- each old pair is still there
  pub still : (h : Digest) (w : Wanted) → Lacks old h w → Lacks new h w

-- new is old, followed by exactly those of the digests that have P
pub record AppendsThose (P : Digest → Type 0) (digests old new : List Digest) : Type 0 where
  -- the added digests
  pub added : List Digest
  -- they follow the old ones
  pub are : new ≡ old ++ added
  -- none is added twice
  pub once : IsDistinct (eq_by_cmp digest_cmp) added
  -- they are exactly the digests with P
  pub exactly : (x : Digest) → Contains added x ↔ (Contains digests x × P x)

-- the digest e is promoted: no block lacks e's block from now on. The blocks that become ready as a result are added to the list
pub record Promotes (s : State) (e : Digest) (old new : Pairs) (fresh more : List Digest) : Type 0 where
  -- the block under e
  pub block : Block
  -- it is held
  pub held : get s.blocks e ≡ Some block
  -- the pairs of e's block are removed
  pub lost : new ≡ without_wanted old (name_of e block)
  -- the added digests
  pub added : List Digest
  -- they follow the listed ones
  pub are : more ≡ fresh ++ added
  -- none is added twice
  pub once : IsDistinct (eq_by_cmp digest_cmp) added
  -- they are exactly those that lacked e's block and are ready now
  pub exactly : (x : Digest) → Contains added x ↔ (Lacks old x (name_of e block) × IsReady s new x)
