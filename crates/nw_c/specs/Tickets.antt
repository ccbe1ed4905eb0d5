-- Tickets and the lists of their walks.
use Rattle.std.specs.Prelude.{◌≡◌, ◌↔◌, ℕ, Bool, IsTrue, IsFalse, Some, None, length, slice_get}
use Rattle.nw_codec.specs.declared.block.Block.{Block}
use Rattle.nw_history.specs.Story.{state_of}
use Rattle.nw_book.specs.Ticket.{TicketView, HaveCollision, HaveOneList, IsListOf}
use Rattle.nw_c.specs.Plain.{digest_in}
use Rattle.nw_c.specs.declared.plain.CDigest.{CDigest}
use Rattle.nw_c.specs.declared.content.Content.{Content}
use Rattle.nw_c.specs.declared.content.Content.TheVariants as kind

-- the garbage round at the call that opened the ticket
abbrev pub floor_of : TicketView → ℕ
floor_of given = (state_of given.front).floor

-- it is a ticket for this digest, with this garbage round
abbrev pub IsAbout : Content → CDigest → ℕ → Type 0
IsAbout (kind.Ticket given) d floor = (digest_in d ≡ given.digest) × (floor ≡ floor_of given)
IsAbout other d floor = ⊥

-- b says whether one list is the reply to both reads; if not, two different blocks have one digest
pub record AreCompared (one other : TicketView) (b : Bool) : Type 0 where
  pub same : IsTrue b ↔ HaveOneList one other
  pub rivals : IsFalse b → (x : Block) × (y : Block) × HaveCollision one other x y

-- both are tickets, which are compared
abbrev pub Agrees : Content → Content → Bool → Type 0
Agrees (kind.Ticket one) (kind.Ticket other) b = AreCompared one other b
Agrees one other b = ⊥

-- the tickets have one digest and one garbage round
abbrev pub HaveOneScope : TicketView → TicketView → Type 0
HaveOneScope one other = (one.digest ≡ other.digest) × (floor_of one ≡ floor_of other)

-- both are tickets, with one digest and one garbage round
abbrev pub AreComparable : Content → Content → Type 0
AreComparable (kind.Ticket one) (kind.Ticket other) = HaveOneScope one other
AreComparable one other = ⊥

-- it is the list in the reply to the ticket's causal read
abbrev pub IsWalkOf : Content → Content → Type 0
IsWalkOf (kind.Ticket given) (kind.List blocks) = IsListOf given blocks
IsWalkOf ticket list = ⊥

-- it is a list of n blocks
abbrev pub HasBlocks : Content → ℕ → Type 0
HasBlocks (kind.List blocks) n = n ≡ length blocks
HasBlocks other n = ⊥

-- it is the block at the index of the list
abbrev pub IsBlockAt : Content → ℕ → Content → Type 0
IsBlockAt (kind.List blocks) index (kind.Block b) = slice_get blocks index ≡ Some b
IsBlockAt list index other = ⊥

-- it is a list with no block at the index
abbrev pub HasNoBlockAt : Content → ℕ → Type 0
HasNoBlockAt (kind.List blocks) index = slice_get blocks index ≡ None
HasNoBlockAt other index = ⊥
