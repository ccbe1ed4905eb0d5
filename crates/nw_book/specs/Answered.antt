-- What the answers of a store mean: to a session's call, to a look, and to a refused call.
use Rattle.std.specs.Prelude.{◌≡◌, List, Option}
use Rattle.std.specs.List.{Contains}
use Rattle.nw_committee.specs.declared.member.Member.{Member}
use Rattle.nw_sig.specs.Signed.{Meaning}
use Rattle.nw_model.specs.declared.call.Call.{Call}
use Rattle.nw_model.specs.declared.reply.Reply.{Reply}
use Rattle.nw_digest.specs.Order.{Slot}
use Rattle.nw_model.specs.Look.{IsLook, TellsSatisfied}
use Rattle.nw_model.specs.declared.look.Look.{Look}
use Rattle.nw_history.specs.Story.{Story, Origin, state_of}
use Rattle.nw_history.specs.Prefix.{IsPrefixOf}
use Rattle.nw_book.specs.Answer.{Takes}
use Rattle.nw_book.specs.Turn.{IsRefusal, event}
use Rattle.nw_book.specs.declared.error.NoStep.{NoStep}
use Rattle.nw_book.specs.Journal.{Journal, ArePrefixesOf, KnowsAll, IsHistoryOf, next_in_journal, with_answer}

-- after this history, the session's next call got this reply and this front; `old` and `new` are the session before and after the call
pub record IsAnswered (accepts : Meaning) (history : Story) (old new : Journal) (call : Call) (reply : Reply) (front : Story) : Type 0 where
  -- the call is taken after the history, with the session's next number; the front is the history with the call
  pub takes : Takes accepts history front old.id (next_in_journal old) call reply front
  -- each earlier front of the session is a prefix of the new front
  pub begins : ArePrefixesOf front old.answers
  -- each history that the session knew of is a prefix of the new front
  pub heard : (s : Story) → Contains old.known s → IsPrefixOf s front
  -- the session's journal gains this answer
  pub keeps : new ≡ with_answer old (event old.id (next_in_journal old) call reply) front new.known
  -- the session now knows of the new front
  pub knows : Contains new.known front
  -- the session still knows of each history that it knew of before
  pub knew : KnowsAll new.known old.known

-- the call was answered in this way after some history of the store
abbrev pub IsExplained : Meaning → Origin → Journal → Journal → Call → Reply → Story → Type 0
IsExplained accepts origin old new call reply front =
    (history : Story) × IsHistoryOf accepts origin history × IsAnswered accepts history old new call reply front

-- the look has what the state after the history has in the slot, and tells which references of the next round are satisfied
pub record IsLookAfter (history : Story) (slot : Slot) (seen : Look) : Type 0 where
  -- it has what the state has in the slot
  pub look : IsLook (state_of history) slot seen
  -- it tells which references of the next round are satisfied
  pub satisfied : TellsSatisfied (state_of history) slot seen

-- after some history of the store, the session's next call takes no step for this cause; `under` is the committee of the checked value, if
-- the call has one
abbrev pub TakesNoStep : Meaning → Origin → Journal → Option (List Member) → NoStep → Type 0
TakesNoStep accepts origin old under why =
    (history : Story) × IsHistoryOf accepts origin history × IsRefusal history old.id (next_in_journal old) under why
