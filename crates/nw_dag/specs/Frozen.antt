-- Frozen blocks: which of the complete blocks the generations have.
use Rattle.std.specs.Prelude.{◌≡◌, ◌↔◌, ℕ, ◌≤◌, ◌⊎◌, List, ◌++◌, Some, Contains}
use Rattle.std.specs.FinMap.{FinMap, get}
use Rattle.nw_digest.specs.declared.digest.Digest.{Digest}
use Rattle.nw_codec.specs.declared.block.Block.{Block}
use Rattle.nw_waiting.specs.Pairs.{Pairs}
use Rattle.nw_digest.specs.Order.{digest_cmp}
use Rattle.nw_model.specs.State.{State}
use Rattle.nw_model.specs.Step.{from_round}
use Rattle.nw_dag.specs.Lacking.{IsReady}
use Rattle.nw_dag.specs.AtRest.{IsAtRest}

-- these are exactly the blocks held under these digests
abbrev pub AreHeldUnder : State → List Digest → FinMap digest_cmp Block → Type 0
AreHeldUnder s digests blocks = (d : Digest) (b : Block) → (get blocks d ≡ Some b) ↔ (Contains digests d × (get s.blocks d ≡ Some b))

-- the block b is held under d, and d is ready
abbrev pub IsHeldReady : State → Pairs → Digest → Block → Type 0
IsHeldReady s lacking d b = IsReady s lacking d × (get s.blocks d ≡ Some b)

-- from the garbage round on, the frozen blocks are exactly the ready ones
abbrev pub AreFrozen : State → Pairs → FinMap digest_cmp Block → Type 0
AreFrozen s lacking blocks = (d : Digest) (b : Block) → s.floor ≤ b.round → (get blocks d ≡ Some b) ↔ IsHeldReady s lacking d b

-- from the garbage round on, the frozen blocks are the ready ones, except that blocks under fresh digests may be missing
pub record AreFrozenExcept (s : State) (lacking : Pairs) (fresh : List Digest) (blocks : FinMap digest_cmp Block) : Type 0 where
  -- each frozen block is held and ready
  pub only : (d : Digest) (b : Block) → s.floor ≤ b.round → get blocks d ≡ Some b → IsHeldReady s lacking d b
  -- each ready block is frozen, or its digest is fresh
  pub each : (d : Digest) (b : Block) → s.floor ≤ b.round → IsHeldReady s lacking d b → (get blocks d ≡ Some b) ⊎ Contains fresh d

-- the new blocks are all old ones, or the old ones from this round on
abbrev pub AreAllOrFrom : ℕ → FinMap digest_cmp Block → FinMap digest_cmp Block → Type 0
AreAllOrFrom round old new = (new ≡ old) ⊎ (new ≡ from_round (λ b. b.round) round old)

-- the digests begin with `front`
abbrev pub Begins : List Digest → List Digest → Type 0
Begins front digests = (more : List Digest) × (digests ≡ front ++ more)

-- more digests are ready and listed: the sets change from old to new, and the list grows from fresh to more
pub record Grows (s : State) (P : Digest → Type 0) (old new : Pairs) (fresh more : List Digest) : Type 0 where
  -- each digest that was ready still is
  pub still : (d : Digest) → IsReady s old d → IsReady s new d
  -- the listed digests keep their places
  pub begins : Begins fresh more
  -- each ready digest has P or is listed
  pub listed : (d : Digest) → IsReady s new d → P d ⊎ Contains more d

-- the invariant of the tables of a store, which holds between two calls
pub record IsDag (s : State) (unmet lacking : Pairs) (fresh : List Digest) (pending : ℕ) (blocks : FinMap digest_cmp Block) : Type 0 where
  -- the two sets and the number of pending blocks are right
  pub at_rest : IsAtRest s unmet lacking pending
  -- each complete block is frozen or fresh
  pub frozen : AreFrozenExcept s lacking fresh blocks
