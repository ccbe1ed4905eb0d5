-- Which blocks are complete: what holds between two calls, and at the stages of one.
--
-- A write or a certificate for the digest d goes through these records, in this order:
--
-- 1. IsAtRest: as between any two calls, the sets of missing parents, the list of ready digests and the count of pending blocks are right.
-- 2. IsAtRestWithout: the block or the certificate of d is in the state, but the sets and the list do not count d as standing yet.
--    This record adds the digest d. `Waits::arrive` starts here. If d still does not stand, or still lacks a parent, stage 5 follows.
-- 3. IsCascading: d is ready, listed, and due for promotion. This record adds the list of due digests. `Waits::cascade` starts here.
-- 4. HasPendingCount: a due digest is promoted, and the digests that become ready as a result are listed one by one. This record has only the list
--    and the count, without the sets. After each promotion, IsCascading holds again, with these digests due too.
-- 5. IsAtRest: no digest is due any longer.
--
-- A collection starts from IsAtRest of the earlier state (IsCollecting), releases holders under HasPendingCount, and continues with stage 3. The
-- digests that became ready as a result are due.
--
-- IsComingToRest is the part that IsCascading and IsAtRest share. Each stage has AreListed and ArePending.
use Rattle.std.specs.Prelude.{◌≡◌, ℕ, ◌+◌, List, [], ◌∷◌, ◌++◌, All, Contains, length}
use Rattle.std.specs.List.{IsDistinct}
use Rattle.std.specs.Ordering.{eq_by_cmp}
use Rattle.std.specs.FinMap.{len}
use Rattle.nw_digest.specs.declared.digest.Digest.{Digest}
use Rattle.nw_waiting.specs.Pairs.{Pairs}
use Rattle.nw_digest.specs.Order.{digest_cmp}
use Rattle.nw_model.specs.State.{State}
use Rattle.nw_dag.specs.Lacking.{AreUnmet, AreUnmetWithout, AreLacking, IsReady}

-- the list has only ready digests, and none twice
pub record AreListed (s : State) (lacking : Pairs) (complete : List Digest) : Type 0 where
  -- each digest is ready
  pub ready : All (IsReady s lacking) complete
  -- no digest is listed twice
  pub once : IsDistinct (eq_by_cmp digest_cmp) complete

-- the number of pending blocks is right: all held blocks except the listed ones are pending
abbrev pub ArePending : State → List Digest → ℕ → Type 0
ArePending s complete pending = length complete + pending ≡ len s.blocks

-- the number of pending blocks is right for some list that has none of the digests `but`
pub record HasPendingCount (s : State) (lacking : Pairs) (but : List Digest) (pending : ℕ) : Type 0 where
  -- the listed digests
  pub complete : List Digest
  -- they are ready
  pub listed : AreListed s lacking complete
  -- none of `but` is listed
  pub apart : (d : Digest) → Contains but d → Contains complete d → ⊥
  -- all other held blocks are pending
  pub counts : ArePending s complete pending

-- the two sets are right, except that some ready digests are due: blocks may still lack them
pub record IsComingToRest (s : State) (unmet lacking : Pairs) (complete due : List Digest) : Type 0 where
  -- `unmet` is right
  pub standing : AreUnmet s unmet
  -- `lacking` is right, if the due digests do not count as promoted
  pub promoted : AreLacking s lacking due
  -- only ready digests are listed
  pub listed : AreListed s lacking complete
  -- each ready digest is listed
  pub all : (d : Digest) → IsReady s lacking d → Contains complete d

-- a stage of the cascade: the sets are right except for the due digests
pub record IsCascading (s : State) (unmet lacking : Pairs) (due : List Digest) (pending : ℕ) : Type 0 where
  -- the listed digests that are promoted already
  pub front : List Digest
  -- the sets are right; the listed digests are these, followed by the due ones
  pub coming_to_rest : IsComingToRest s unmet lacking (front ++ due) due
  -- all other held blocks are pending
  pub counts : ArePending s (front ++ due) pending

-- the state between two calls: the sets are right, and no digest is due
pub record IsAtRest (s : State) (unmet lacking : Pairs) (pending : ℕ) : Type 0 where
  -- the listed digests
  pub complete : List Digest
  -- the sets are right, with nothing due
  pub coming_to_rest : IsComingToRest s unmet lacking complete []
  -- all other held blocks are pending
  pub counts : ArePending s complete pending

-- the stage after d's block or certificate is added: the sets are right, if d does not count as standing
pub record IsAtRestWithout (s : State) (d : Digest) (unmet lacking : Pairs) (pending : ℕ) : Type 0 where
  -- the listed digests
  pub complete : List Digest
  -- `unmet` is right, if d does not count as standing
  pub standing : AreUnmetWithout s d unmet
  -- `lacking` is right, if d does not count as promoted
  pub promoted : AreLacking s lacking (d ∷ [])
  -- only ready digests are listed
  pub listed : AreListed s lacking complete
  -- d is not listed
  pub apart : Contains complete d → ⊥
  -- each ready digest but d is listed
  pub all : (x : Digest) → (x ≡ d → ⊥) → IsReady s lacking x → Contains complete x
  -- all other held blocks are pending, d's included if it is held
  pub counts : ArePending s complete pending
