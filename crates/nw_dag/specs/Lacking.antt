-- Which blocks lack which parents.
--
-- Contracts see two sets of pairs (Pairs). A pair is a parent and a holder that lacks it: the digest of a block that names the parent.
-- `unmet` has the parents that are not met: their digests do not stand with a block of their round and author (IsMet). `lacking` has the
-- parents that are not met or not complete.
use Rattle.std.specs.Prelude.{◌≡◌, ◌↔◌, ℕ, ◌<◌, ◌⊎◌, List, Some, Contains}
use Rattle.std.specs.FinMap.{get}
use Rattle.nw_digest.specs.declared.digest.Digest.{Digest}
use Rattle.nw_codec.specs.declared.block.Ref.{Ref}
use Rattle.nw_codec.specs.declared.block.Block.{Block}
use Rattle.nw_waiting.specs.Pairs.{Pairs, Lacks}
use Rattle.nw_model.specs.declared.wanted.Wanted.{Wanted}
use Rattle.nw_model.specs.State.{State}
use Rattle.nw_model.specs.Missing.{IsNamedBy}
use Rattle.nw_state.specs.Standing.{Stands, IsMet}

-- one of these references of a block of this round names the parent w
abbrev pub IsNamedAmong : ℕ → List Ref → Wanted → Type 0
IsNamedAmong round refs w = (r : Ref) × Contains refs r × IsNamedBy round r w

-- the block under d is above the garbage round, and one of its references names the parent w
abbrev pub ReferencesParent : State → Digest → Wanted → Type 0
ReferencesParent s d w = (b : Block) × (get s.blocks d ≡ Some b) × (s.floor < b.round) × IsNamedAmong b.round b.parents w

-- d lacks no parent
abbrev pub LacksNothing : Pairs → Digest → Type 0
LacksNothing lacking d = (w : Wanted) → Lacks lacking d w → ⊥

-- d lacks some parent
abbrev pub LacksSomething : Pairs → Digest → Type 0
LacksSomething lacking d = (w : Wanted) × Lacks lacking d w

-- d is ready: it stands, and lacks no parent
abbrev pub IsReady : State → Pairs → Digest → Type 0
IsReady s lacking d = Stands s d × LacksNothing lacking d

-- d is promoted: it is ready, and not among the digests that are still due for promotion
abbrev pub IsPromoted : State → Pairs → List Digest → Digest → Type 0
IsPromoted s lacking due d = IsReady s lacking d × (Contains due d → ⊥)

-- each block lacks exactly the parents that it names and that are not met
abbrev pub AreUnmet : State → Pairs → Type 0
AreUnmet s unmet = (d : Digest) (w : Wanted) → Lacks unmet d w ↔ (ReferencesParent s d w × (IsMet s w → ⊥))

-- no parent among these pairs is met
abbrev pub AreNotMet : State → Pairs → Type 0
AreNotMet s unmet = (d : Digest) (w : Wanted) → Lacks unmet d w → IsMet s w → ⊥

-- the unmet pairs are those of the lacking ones whose parents are not met
abbrev pub AreSplit : State → Pairs → Pairs → Type 0
AreSplit s unmet lacking = (d : Digest) (w : Wanted) → Lacks unmet d w ↔ (Lacks lacking d w × (IsMet s w → ⊥))

-- the parent w is met without counting d: it is met, and its digest is not d
abbrev pub IsMetWithout : State → Digest → Wanted → Type 0
IsMetWithout s d w = IsMet s w × (w.digest ≡ d → ⊥)

-- each block lacks exactly the parents that it names and that are not met without counting d
abbrev pub AreUnmetWithout : State → Digest → Pairs → Type 0
AreUnmetWithout s d unmet = (h : Digest) (w : Wanted) → Lacks unmet h w ↔ (ReferencesParent s h w × (IsMetWithout s d w → ⊥))

-- each block lacks exactly the parents that it names and that are not met or not promoted
pub record AreLacking (s : State) (lacking : Pairs) (due : List Digest) : Type 0 where
  -- a block lacks each parent that it names, unless the parent is met and promoted
  pub each : (d : Digest) (w : Wanted) → ReferencesParent s d w → Lacks lacking d w ⊎ (IsMet s w × IsPromoted s lacking due w.digest)
  -- a block names each parent that it lacks, and the parent is not met or not promoted
  pub only : (d : Digest) (w : Wanted) → Lacks lacking d w → ReferencesParent s d w × (IsMet s w → IsPromoted s lacking due w.digest → ⊥)
