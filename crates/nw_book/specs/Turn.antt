-- Turns and refusals of calls, and the invariant of a book.
use Rattle.std.specs.Prelude.{◌≡◌, ℕ, ◌+◌, ◌<◌, List, Option, Some, None, length, slice_index}
use Rattle.nw_committee.specs.declared.member.Member.{Member}
use Rattle.nw_sig.specs.Signed.{Meaning}
use Rattle.nw_model.specs.Step.{BoundedState, recorded_call}
use Rattle.nw_model.specs.History.{events_of}
use Rattle.nw_model.specs.declared.call.Call.{Call}
use Rattle.nw_model.specs.declared.event.Event.{Event}
use Rattle.nw_model.specs.declared.reply.Reply.{Reply}
use Rattle.nw_history.specs.Limits.{AreInRange}
use Rattle.nw_history.specs.Story.{Story, IsLegalStory, tables_of}
use Rattle.nw_book.specs.declared.error.NoStep.{NoStep}
use Rattle.nw_book.specs.declared.error.NoStep.TheVariants as refusals

-- the number of the session's next call
abbrev pub next_number : Story → ℕ → ℕ
next_number s session = length (events_of session s.events) + 1

-- the event of a session's call with this number and this reply. It has the call as a history records it
abbrev pub event : ℕ → ℕ → Call → Reply → Event
event session number call reply = record { session = session; number = number; call = recorded_call call reply; reply = reply }

-- a call of the session with this number is in turn after the history
pub record IsInTurn (s : Story) (session number : ℕ) : Type 0 where
  -- the session is below the limit of sessions
  pub session_below : session < s.limits.sessions
  -- the number is that of the session's next call
  pub number_next : number ≡ next_number s session

-- the history has fewer events than its limit allows
abbrev pub HasRoom : Story → Type 0
HasRoom s = length s.events < s.limits.events

-- the second committee, if there is one, is equal to the first
abbrev pub MatchesCommittee : List Member → Option (List Member) → Type 0
MatchesCommittee members None = Unit {0}
MatchesCommittee members (Some own) = own ≡ members

-- why a call of the session with this number takes no step, the first that applies: it is out of turn; its block or certificate was
-- checked under another committee; the history is full; an allocation failed
abbrev pub IsRefusal : Story → ℕ → ℕ → Option (List Member) → NoStep → Type 0
IsRefusal s session number under refusals.OutOfTurn = IsInTurn s session number → ⊥
IsRefusal s session number under refusals.OtherCommittee = IsInTurn s session number × (MatchesCommittee s.committee under → ⊥)
IsRefusal s session number under refusals.HistoryFull = IsInTurn s session number × MatchesCommittee s.committee under × (HasRoom s → ⊥)
IsRefusal s session number under refusals.NoMemory = IsInTurn s session number × MatchesCommittee s.committee under × HasRoom s

-- a call of the session with this number may take a step; `under` is the committee of its checked value, if it has one
pub record MayStep (s : Story) (session number : ℕ) (under : Option (List Member)) : Type 0 where
  -- the call is in turn
  pub turn : IsInTurn s session number
  -- the checked value's committee is that of the history
  pub own : MatchesCommittee s.committee under
  -- the history is not full
  pub room : HasRoom s

-- the list has, for each session in order, the number of its events
pub record AreEventCounts (counts : List ℕ) (s : Story) : Type 0 where
  -- the list has an item for each session that the limits allow
  pub sessions : length counts ≡ s.limits.sessions
  -- the item of a session is the number of its events
  pub each : (session : ℕ) → session < length counts → slice_index counts session ≡ length (events_of session s.events)

-- the invariant of a book: its tables and its counts represent its history
pub record IsBook (accepts : Meaning) (tables : BoundedState) (counts : List ℕ) (s : Story) : Type 0 where
  -- the limits are in their ranges
  pub in_range : AreInRange s.limits
  -- the history is legal
  pub legal : IsLegalStory accepts s
  -- the tables have the state after the history
  pub state : tables ≡ tables_of s
  -- the counts are those of the history's events
  pub counted : AreEventCounts counts s
