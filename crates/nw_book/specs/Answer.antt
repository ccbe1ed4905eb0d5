-- What an answer means.
use Rattle.std.specs.Prelude.{◌≡◌, ℕ, Result, Ok, Err}
use Rattle.nw_digest.specs.declared.digest.Digest.{Digest}
use Rattle.nw_sig.specs.Signed.{Meaning}
use Rattle.nw_model.specs.Step.{IsReply}
use Rattle.nw_model.specs.declared.call.Call.{Call}
use Rattle.nw_model.specs.declared.event.Event.{Event}
use Rattle.nw_model.specs.declared.reply.CausalReply.{CausalReply}
use Rattle.nw_model.specs.declared.reply.Reply.{Reply}
use Rattle.nw_model.specs.declared.reply.Reply.TheVariants as replies
use Rattle.nw_history.specs.Story.{Story, IsLegalStory, bounds_of, state_of, with_event}
use Rattle.nw_book.specs.Ticket.{TicketView}
use Rattle.nw_book.specs.Turn.{event}

-- an answer, as contracts see it
pub record AnswerView : Type 0 where
  -- the event of the call
  pub event : Event
  -- the history up to and including the event
  pub front : Story

-- the session's call with this number is taken after the old history, which gives the new one
pub record Takes (accepts : Meaning) (old new : Story) (session number : ℕ) (call : Call) (reply : Reply) (front : Story) : Type 0 where
  -- the new history is the old one with this event
  pub history : new ≡ with_event old (event session number call reply)
  -- the reply is that of the step after the old history
  pub is_reply : IsReply (bounds_of old.limits) (state_of old) call reply
  -- the front is the new history
  pub front_is : front ≡ new
  -- the new history is legal
  pub legal : IsLegalStory accepts new

-- the reply to a causal read: Ready if it got a ticket
abbrev pub reply_of : Result TicketView AnswerView → Reply
reply_of (Ok ticket) = replies.Ready
reply_of (Err done) = done.event.reply

-- the front of the answer to a causal read
abbrev pub front_of : Result TicketView AnswerView → Story
front_of (Ok ticket) = ticket.front
front_of (Err done) = done.front

-- the ticket is for the digest; if there is no ticket, the reply says why there is no list
abbrev pub IsTicketFor : Digest → Result TicketView AnswerView → Type 0
IsTicketFor d (Ok ticket) = ticket.digest ≡ d
IsTicketFor d (Err done) = (why : CausalReply) × (done.event.reply ≡ replies.Causal why)
