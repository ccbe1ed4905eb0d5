-- The laws that the definitions satisfy.
use Rattle.std.specs.Prelude.{◌≡◌, ◌≢◌, ◌==◌, ◌↔◌, ◌⊎◌, ℕ, ◌≤◌, ◌<◌, true, nat_le, List, [], ◌++◌, Some, All, Contains, IsSome, filter, map, slice_get}
use Rattle.nw_digest.specs.declared.digest.Digest.{Digest}
use Rattle.nw_codec.specs.declared.block.Block.{Block}
use Rattle.nw_committee.specs.Committee.{ReachesQuorum}
use Rattle.nw_sig.specs.Signed.{Meaning}
use Rattle.std.specs.FinMap.{get}
use Rattle.nw_digest.specs.Order.{Slot}
use Rattle.nw_model.specs.State.{State, block_slot}
use Rattle.nw_model.specs.Checks.{digest_of}
use Rattle.nw_model.specs.Paths.{IsAncestor, IsComplete, IsCausalList, IsSatisfied}
use Rattle.nw_model.specs.Missing.{AreMissingOf}
use Rattle.nw_model.specs.View.{Frozen, IsAncestorIn, Shows}
use Rattle.nw_model.specs.Sound.{IsSound, HasNoBlocksBelowFloor}
use Rattle.nw_model.specs.History.{Terms, IsLegal, replay}
use Rattle.nw_model.specs.declared.call.Call.TheVariants as call
use Rattle.nw_model.specs.declared.event.Event.{Event}
use Rattle.nw_model.specs.declared.reply.Reply.TheVariants as reply
use Rattle.nw_model.specs.declared.reply.CollectReply.TheVariants as collect
use Rattle.nw_model.specs.declared.reply.WriteReply.TheVariants as write

-- every legal history leaves a sound state: so each slot has at most one certified digest, and the block under it has that slot
abbrev pub LegalHistoriesLeaveSoundStates : Type 0
LegalHistoriesLeaveSoundStates =
    (accepts : Meaning) (terms : Terms) (base : State) (es : List Event) → IsLegal accepts terms base es → IsSound (replay terms.bounds base es)

-- the first events of a legal history are a legal history
abbrev pub BeginningsOfLegalHistoriesAreLegal : Type 0
BeginningsOfLegalHistoriesAreLegal =
    (accepts : Meaning) (terms : Terms) (base : State) (first more : List Event) → IsLegal accepts terms base (first ++ more) → IsLegal accepts terms base first

-- if a view shows a state that has no blocks below its garbage round, a complete digest has the same ancestors in both
abbrev pub ViewsShowTheAncestors : Type 0
ViewsShowTheAncestors = (v : Frozen) (s : State) (d : Digest) → HasNoBlocksBelowFloor s → Shows v s → IsComplete s d → (a : Digest) → IsAncestorIn v d a ↔ IsAncestor s d a

-- in a sound state, a complete digest has a causal list, and every causal list of it is equal to that one
abbrev pub CompleteDigestsHaveOneCausalList : Type 0
CompleteDigestsHaveOneCausalList =
    (s : State) (d : Digest) → IsSound s → IsComplete s d → (blocks : List Block) × IsCausalList s d blocks × ((others : List Block) → IsCausalList s d others → others ≡ blocks)

-- each digest in the causal list of a complete digest is complete, and its own causal list is contained in that list
abbrev pub CausalListsContainThoseOfTheirBlocks : Type 0
CausalListsContainThoseOfTheirBlocks =
    (s : State) (d : Digest) (blocks : List Block) → IsComplete s d → (listed : IsCausalList s d blocks) → (e : Digest) → Contains listed.digests e
    → IsComplete s e × (few : List Block) × IsCausalList s e few × All (Contains blocks) few

-- the event is a write of a block of this slot, and its reply is Stored with a vote
abbrev pub IsVotingEvent : Slot → Event → Type 0
IsVotingEvent slot e = (d : Digest) × (b : Block) × (e.call ≡ call.Write d b) × (e.reply ≡ reply.Write (write.Stored true)) × (block_slot b ≡ slot)

-- at most one event of a legal history votes for a slot
abbrev pub LegalHistoriesVoteOnce : Type 0
LegalHistoriesVoteOnce =
    (accepts : Meaning) (terms : Terms) (base : State) (es : List Event) → IsLegal accepts terms base es
    → (slot : Slot) (i j : ℕ) (e f : Event) → slice_get es i ≡ Some e → slice_get es j ≡ Some f → IsVotingEvent slot e → IsVotingEvent slot f → i ≡ j

-- if a slot has a first digest in the base of a legal history, no event of the history votes for it
abbrev pub FirstsOfABaseGetNoVote : Type 0
FirstsOfABaseGetNoVote =
    (accepts : Meaning) (terms : Terms) (base : State) (es : List Event) → IsLegal accepts terms base es
    → (slot : Slot) → IsSome (get base.firsts slot) → (i : ℕ) (e : Event) → slice_get es i ≡ Some e → IsVotingEvent slot e → ⊥

-- a held block has no missing parents exactly when all its references are satisfied, or it is not above the garbage round
abbrev pub BlocksWithTheirParentsMissNone : Type 0
BlocksWithTheirParentsMissNone =
    (s : State) (d : Digest) (b : Block) → get s.blocks d ≡ Some b → AreMissingOf s d (Some []) ↔ (s.floor < b.round → All (IsSatisfied s b.round) b.parents)

-- s and t are states of one legal history, and s is not later than t
pub record IsLaterState (accepts : Meaning) (terms : Terms) (s t : State) : Type 0 where
  -- the base of the history
  pub base : State
  -- its events up to s
  pub first : List Event
  -- its events from s to t
  pub more : List Event
  -- the history is legal
  pub legal : IsLegal accepts terms base (first ++ more)
  -- s is the state after the first events
  pub earlier : s ≡ replay terms.bounds base first
  -- t is the state after all of them
  pub later : t ≡ replay terms.bounds s more

-- take a complete digest, and a later state with a garbage round that is not above the block's round. The digest is complete in the later
-- state too. Its causal list there is the earlier one without the blocks below that garbage round
abbrev pub CausalListsStay : Type 0
CausalListsStay =
    (accepts : Meaning) (terms : Terms) (s t : State) → IsLaterState accepts terms s t
    → (d : Digest) (b : Block) (blocks : List Block) → IsComplete s d → IsCausalList s d blocks → get s.blocks d ≡ Some b → t.floor ≤ b.round
    → IsComplete t d × IsCausalList t d (filter (λ x. nat_le t.floor x.round) blocks)

-- the authors of the blocks of this round
abbrev pub authors_in : ℕ → List Block → List ℕ
authors_in round blocks = map (λ b. b.author) (filter (λ b. b.round == round) blocks)

-- after a legal history, take the causal list of a complete digest. In each round from the garbage round up to the round before the
-- block's, the authors of the listed blocks reach the quorum
abbrev pub CausalListsReachQuorums : Type 0
CausalListsReachQuorums =
    (accepts : Meaning) (terms : Terms) (base : State) (es : List Event) → IsLegal accepts terms base es → (s : State) → s ≡ replay terms.bounds base es
    → (d : Digest) (b : Block) (blocks : List Block) → IsComplete s d → IsCausalList s d blocks → get s.blocks d ≡ Some b
    → (round : ℕ) → s.floor ≤ round → round < b.round → ReachesQuorum terms.committee (authors_in round blocks)

-- the event is a read of d, and its reply is the block b
abbrev pub IsReadOf : Digest → Block → Event → Type 0
IsReadOf d b e = (e.call ≡ call.Read d) × (e.reply ≡ reply.Read (Some b))

-- the event is a collection that raised the garbage round above this round
abbrev pub RaisesAbove : ℕ → Event → Type 0
RaisesAbove round e = (floor dropped : ℕ) × (e.call ≡ call.Collect floor) × (e.reply ≡ reply.Collect (collect.Raised dropped)) × (round < floor)

-- an event between those at places i and j raised the garbage round above this round
abbrev pub IsCollectedBetween : List Event → ℕ → ℕ → ℕ → Type 0
IsCollectedBetween es i j round = (k : ℕ) × (e : Event) × (i < k) × (k < j) × (slice_get es k ≡ Some e) × RaisesAbove round e

-- b and c are a collision of the hash function: two different blocks with the digest d
pub record AreCollision (d : Digest) (b c : Block) : Type 0 where
  -- the blocks are different
  pub differ : b ≢ c
  -- d is the digest of b
  pub first : digest_of b ≡ d
  -- d is the digest of c
  pub second : digest_of c ≡ d

-- two reads of a digest in a legal history give the same block, with one exception. If a collection between them raised the garbage round
-- above the first block's round, they may give two different blocks with that digest
abbrev pub ReadsAgree : Type 0
ReadsAgree =
    (accepts : Meaning) (terms : Terms) (base : State) (es : List Event) → IsLegal accepts terms base es
    → (d : Digest) (b c : Block) (i j : ℕ) (e f : Event) → i < j → slice_get es i ≡ Some e → slice_get es j ≡ Some f → IsReadOf d b e → IsReadOf d c f
    → (b ≡ c) ⊎ (IsCollectedBetween es i j b.round × AreCollision d b c)
