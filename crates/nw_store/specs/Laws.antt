-- The law of notes.
use Rattle.nw_sig.specs.Signed.{Meaning}
use Rattle.nw_model.specs.declared.call.Call.{Call}
use Rattle.nw_model.specs.declared.reply.Reply.{Reply}
use Rattle.nw_history.specs.Story.{Story}
use Rattle.nw_history.specs.Prefix.{IsPrefixOf}
use Rattle.std.specs.Prelude.{List}
use Rattle.nw_book.specs.Journal.{Journal, KnowsAll}
use Rattle.nw_book.specs.Answered.{IsAnswered}

-- one answered call of a session
pub record AnsweredCall (accepts : Meaning) : Type 0 where
  -- the history before the call
  pub history : Story
  -- the session before the call
  pub before : Journal
  -- the session after the call
  pub after : Journal
  -- the call
  pub call : Call
  -- its reply
  pub reply : Reply
  -- the history that the answer carries
  pub front : Story
  -- the call got this reply and this front
  pub answered : IsAnswered accepts history before after call reply front

-- if a note has all that a session knew after a first call, and the session of a second call knew all of the note before that call, then
-- the first front is a prefix of the second
abbrev pub NotesCarryOrder : Type 0
NotesCarryOrder =
    (accepts : Meaning) (first second : AnsweredCall accepts) (note : List Story)
    → KnowsAll note first.after.known → KnowsAll second.before.known note → IsPrefixOf first.front second.front
