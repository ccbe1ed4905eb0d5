-- Settlement: when the journals of a store's sessions together are its history.
use Rattle.std.specs.Prelude.{◌≡◌, ℕ, ◌<◌, List, Some, length, map, slice_get, All}
use Rattle.nw_model.specs.History.{events_of}
use Rattle.nw_model.specs.declared.event.Event.{Event}
use Rattle.nw_history.specs.Story.{Story}
use Rattle.nw_book.specs.Answer.{AnswerView}
use Rattle.nw_book.specs.Journal.{Journal, ArePrefixesOf}

-- the events of these answers, in order
abbrev pub events_in : List AnswerView → List Event
events_in answers = map (λ a. a.event) answers

-- the journal is the session's part of the history
pub record IsJournalOf (history : Story) (session : ℕ) (j : Journal) : Type 0 where
  -- the journal has the session's number
  pub id_is : j.id ≡ session
  -- its events are the session's events of the history, in order
  pub events : events_of session history.events ≡ events_in j.answers
  -- each front is a prefix of the history
  pub begun : ArePrefixesOf history j.answers

-- the history is an interleaving of the journals
pub record AreSettled (history : Story) (js : List Journal) : Type 0 where
  -- the journal at each place is that session's part of the history
  pub each : (session : ℕ) (j : Journal) → slice_get js session ≡ Some j → IsJournalOf history session j
  -- no event belongs to any other session
  pub others : All (λ e. e.session < length js) history.events
