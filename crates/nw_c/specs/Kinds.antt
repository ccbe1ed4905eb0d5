-- The contents that functions require, and unchanged handles.
use Rattle.std.specs.Prelude.{◌≡◌, ◌⊎◌, List}
use Rattle.nw_committee.specs.declared.member.Member.{Member}
use Rattle.nw_codec.specs.declared.block.Block.{Block}
use Rattle.nw_codec.specs.declared.vote.Vote.{Vote}
use Rattle.nw_check.specs.Checked.{CheckedBlockView, CheckedCertView}
use Rattle.nw_check.specs.Gathering.{Gathering}
use Rattle.nw_check.specs.declared.message.Checked.{Checked}
use Rattle.nw_check.specs.declared.message.Checked.TheVariants as checked
use Rattle.nw_history.specs.Story.{Story}
use Rattle.nw_book.specs.Answer.{AnswerView}
use Rattle.nw_book.specs.Ticket.{TicketView}
use Rattle.nw_shared_store.specs.Session.{SessionView, StoreView}
use Rattle.nw_ed25519.specs.declared.scheme.Ed25519.{Ed25519}
use Rattle.nw_c.specs.declared.content.Content.{Content}
use Rattle.nw_c.specs.declared.content.Content.TheVariants as kind
use Rattle.nw_c.specs.declared.handle.Handle.{Handle}

-- the handle is as open as before, and has the same content
abbrev pub IsUnchanged : Handle → Handle → Type 0
IsUnchanged old new = (new.held ≡ old.held) × (new.value ≡ old.value)

-- it is a committee
abbrev pub HoldsCommittee : Content → Type 0
HoldsCommittee c = (members : List Member) × (c ≡ kind.Committee members)

-- it is a checked text
abbrev pub HoldsChecked : Content → Type 0
HoldsChecked c = (text : Checked Ed25519) × (c ≡ kind.Checked text)

-- it is a checked block
abbrev pub HoldsCheckedBlock : Content → Type 0
HoldsCheckedBlock c = (block : CheckedBlockView) × (c ≡ kind.Checked (checked.Block block))

-- it is a checked certificate
abbrev pub HoldsCheckedCert : Content → Type 0
HoldsCheckedCert c = (certificate : CheckedCertView) × (c ≡ kind.Checked (checked.Cert certificate))

-- it is a vote
abbrev pub HoldsVote : Content → Type 0
HoldsVote c = (vote : Vote) × (c ≡ kind.Checked (checked.Vote vote))

-- it is a checked block or certificate
abbrev pub CanBeHandedIn : Content → Type 0
CanBeHandedIn c = HoldsCheckedBlock c ⊎ HoldsCheckedCert c

-- it is a checked text that has a message
abbrev pub HoldsMessage : Content → Type 0
HoldsMessage c = CanBeHandedIn c ⊎ HoldsVote c

-- it is the votes gathered for a block
abbrev pub HoldsGather : Content → Type 0
HoldsGather c = (votes : Gathering) × (c ≡ kind.Gather votes)

-- it is an answer
abbrev pub HoldsAnswer : Content → Type 0
HoldsAnswer c = (told : AnswerView) × (c ≡ kind.Answer told)

-- it is a ticket
abbrev pub HoldsTicket : Content → Type 0
HoldsTicket c = (given : TicketView) × (c ≡ kind.Ticket given)

-- it is a history
abbrev pub HoldsHistory : Content → Type 0
HoldsHistory c = (history : Story) × (c ≡ kind.History history)

-- it is an answer or a ticket, and so has a reply
abbrev pub HoldsReply : Content → Type 0
HoldsReply c = HoldsAnswer c ⊎ HoldsTicket c

-- it is an answer, a ticket or a history, and so has a history
abbrev pub HasHistory : Content → Type 0
HasHistory c = HoldsReply c ⊎ HoldsHistory c

-- an answer may replace it: it is room, an answer, a ticket or a history
abbrev pub HoldsRoom : Content → Type 0
HoldsRoom c = (c ≡ kind.Room) ⊎ HasHistory c

-- it is a list of blocks
abbrev pub HoldsList : Content → Type 0
HoldsList c = (blocks : List Block) × (c ≡ kind.List blocks)

-- it is a block
abbrev pub HoldsBlock : Content → Type 0
HoldsBlock c = (block : Block) × (c ≡ kind.Block block)

-- it is a store that threads share
abbrev pub HoldsStore : Content → Type 0
HoldsStore c = (store : StoreView) × (c ≡ kind.Store store)

-- it is a session of such a store
abbrev pub HoldsSession : Content → Type 0
HoldsSession c = (session : SessionView) × (c ≡ kind.Session session)

-- it is the sessions that are given to a settlement
abbrev pub HoldsSettlement : Content → Type 0
HoldsSettlement c = (given : List SessionView) × (c ≡ kind.Settlement given)
