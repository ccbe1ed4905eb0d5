-- What a collection changes in the tables. Lacking defines the sets of missing parents, and AtRest the count of pending blocks.
use Rattle.std.specs.Prelude.{◌≡◌, ◌↔◌, ℕ, ◌+◌, ◌<◌, List, [], Some, Contains, length}
use Rattle.std.specs.FinMap.{get, len}
use Rattle.nw_digest.specs.declared.digest.Digest.{Digest}
use Rattle.nw_codec.specs.declared.block.Block.{Block}
use Rattle.nw_waiting.specs.Pairs.{Pairs, Lacks}
use Rattle.nw_model.specs.declared.wanted.Wanted.{Wanted}
use Rattle.nw_model.specs.State.{State}
use Rattle.nw_model.specs.Step.{raised}
use Rattle.nw_model.specs.Sound.{IsSound}
use Rattle.nw_state.specs.Standing.{Stands}
use Rattle.nw_state.specs.Collection.{AreDigestsUpTo}
use Rattle.nw_dag.specs.Lacking.{LacksSomething, IsReady}
use Rattle.nw_dag.specs.Changes.{AppendsThose}
use Rattle.nw_dag.specs.AtRest.{IsAtRest}

-- the holders are released: they no longer lack anything, and nothing else changes
abbrev pub AreReleased : List Digest → Pairs → Pairs → Type 0
AreReleased holders old new = (h : Digest) (w : Wanted) → Lacks new h w ↔ (Lacks old h w × (Contains holders h → ⊥))

-- d stands, but lacks some parent
abbrev pub StandsButLacks : State → Pairs → Digest → Type 0
StandsButLacks s lacking d = Stands s d × LacksSomething lacking d

-- d is ready, and its block belongs to a round below this one
abbrev pub IsCompleteBelow : State → Pairs → ℕ → Digest → Type 0
IsCompleteBelow s lacking round d = IsReady s lacking d × ((b : Block) × (get s.blocks d ≡ Some b) × (b.round < round))

-- `count` of the digests are ready with blocks of rounds below this one
abbrev pub HasCompleteBelow : State → Pairs → ℕ → List Digest → ℕ → Type 0
HasCompleteBelow s lacking round digests count = (lost : List Digest) × AppendsThose (IsCompleteBelow s lacking round) digests [] lost × (length lost ≡ count)

-- the garbage round was raised, but the sets and the count of pending blocks are still those of the state before
pub record IsCollecting (s : State) (unmet lacking : Pairs) (pending : ℕ) (holders : List Digest) (dropped : ℕ) : Type 0 where
  -- the state before the collection
  pub before : State
  -- it was sound
  pub sound : IsSound before
  -- the sets and the count of pending blocks are right for it
  pub at_rest : IsAtRest before unmet lacking pending
  -- the garbage round is higher now
  pub higher : before.floor < s.floor
  -- the state is the one before, raised to the new garbage round
  pub raised : s ≡ raised before s.floor
  -- the holders are the digests of rounds up to the new garbage round
  pub digests_up_to : AreDigestsUpTo before s.floor holders
  -- the number of dropped blocks that were complete
  pub lost : ℕ
  -- these are the complete blocks of the holders below the new garbage round
  pub are_lost : HasCompleteBelow before lacking s.floor holders lost
  -- the other dropped blocks were pending, and there are `dropped` of them
  pub counts : dropped + lost + len s.blocks ≡ len before.blocks
