-- Tickets for causal reads, their lists, and their agreement.
use Rattle.std.specs.Prelude.{◌≡◌, ◌≤◌, ℕ, List, [], ◌∷◌, ◌++◌, Some, All}
use Rattle.std.specs.FinMap.{get}
use Rattle.nw_digest.specs.declared.digest.Digest.{Digest}
use Rattle.nw_codec.specs.declared.block.Block.{Block}
use Rattle.nw_sig.specs.Signed.{Meaning}
use Rattle.nw_committee.specs.declared.member.Member.{Member}
use Rattle.nw_model.specs.Checks.{digest_of, IsWellFormed}
use Rattle.nw_model.specs.Laws.{AreCollision}
use Rattle.nw_model.specs.Paths.{IsComplete}
use Rattle.nw_model.specs.Step.{IsReply}
use Rattle.nw_model.specs.View.{Frozen, Shows}
use Rattle.nw_model.specs.declared.call.Call.TheVariants as calls
use Rattle.nw_model.specs.declared.event.Event.{Event}
use Rattle.nw_model.specs.declared.reply.Reply.TheVariants as replies
use Rattle.nw_causal.specs.declared.ancestor.Ancestor.{Ancestor}
use Rattle.nw_causal.specs.declared.agreement.Agreement.{Agreement}
use Rattle.nw_causal.specs.declared.agreement.Agreement.TheVariants as agreements
use Rattle.nw_history.specs.Story.{Story, IsLegalStory, bounds_of, state_of}
use Rattle.nw_book.specs.Turn.{event}

-- a ticket, as contracts see it
pub record TicketView : Type 0 where
  -- the digest of the causal read
  pub digest : Digest
  -- the history up to and including the causal read
  pub front : Story

-- the ticket comes from a causal read
pub record IsTicket (accepts : Meaning) (t : TicketView) : Type 0 where
  -- the front is a legal history
  pub legal : IsLegalStory accepts t.front
  -- the front ends with a causal read of the digest, with the reply Ready
  pub last : (earlier : List Event) × (session : ℕ) × (number : ℕ)
      × (t.front.events ≡ earlier ++ event session number (calls.Causal t.digest) replies.Ready ∷ [])

-- the ticket comes from a causal read and has this view
pub record IsTicketWith (accepts : Meaning) (t : TicketView) (v : Frozen) : Type 0 where
  -- the ticket comes from a causal read
  pub ticket : IsTicket accepts t
  -- the view shows the state after the front
  pub shows : Shows v (state_of t.front)

-- each digest is that of its block
abbrev pub HaveTheirDigests : List Ancestor → Type 0
HaveTheirDigests = All (λ (a : Ancestor). a.digest.now ≡ digest_of a.block.now)

-- each block is well formed under these members
abbrev pub AreWellFormed : Meaning → List Member → List Ancestor → Type 0
AreWellFormed accepts members = All (λ (a : Ancestor). IsWellFormed accepts members a.block.now)

-- the list is the reply to the ticket's causal read
abbrev pub IsListOf : TicketView → List Block → Type 0
IsListOf t blocks = IsReply (bounds_of t.front.limits) (state_of t.front) (calls.Causal t.digest) (replies.List blocks)

-- one list is the reply to both reads
abbrev pub HaveOneList : TicketView → TicketView → Type 0
HaveOneList t u = (blocks : List Block) × IsListOf t blocks × IsListOf u blocks

-- after the front, the block is held under the digest and complete
pub record IsHeldAfter (front : Story) (d : Digest) (b : Block) : Type 0 where
  -- the block is held under the digest
  pub held : get (state_of front).blocks d ≡ Some b
  -- the block is not below the garbage round
  pub kept : (state_of front).floor ≤ b.round
  -- the digest is complete
  pub complete : IsComplete (state_of front) d

-- b is held after the front of t, and c after the front of u; they are two different blocks with one digest, under which both are held
abbrev pub HaveCollision : TicketView → TicketView → Block → Block → Type 0
HaveCollision t u b c = (d : Digest) × IsHeldAfter t.front d b × IsHeldAfter u.front d c × AreCollision d b c

-- the agreement is Same if one list is the reply to both reads; otherwise it is a collision of two blocks
abbrev pub IsAgreed : TicketView → TicketView → Agreement → Type 0
IsAgreed t u agreements.Same = HaveOneList t u
IsAgreed t u (agreements.Collision b c) = (HaveOneList t u → ⊥) × HaveCollision t u b c
