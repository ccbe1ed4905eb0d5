-- The value under the lock, and a call on it.
use Rattle.std.specs.Prelude.{◌≡◌, ◌≢◌, ℕ, ◌+◌, ◌<◌, ◌≤◌, List, Option, All}
use Rattle.nw_committee.specs.declared.member.Member.{Member}
use Rattle.nw_sig.specs.Signed.{Meaning}
use Rattle.nw_model.specs.declared.call.Call.{Call}
use Rattle.nw_model.specs.declared.reply.Reply.{Reply}
use Rattle.nw_history.specs.Limits.{AreInRange}
use Rattle.nw_history.specs.Story.{Story, IsLegalStory, reopened}
use Rattle.nw_book.specs.Answer.{Takes}
use Rattle.nw_book.specs.Turn.{IsRefusal, MatchesCommittee, next_number}
use Rattle.nw_book.specs.declared.error.NoStep.{NoStep}
use Rattle.nw_book.specs.declared.error.NoStep.TheVariants as causes
use Rattle.nw_shared_store.specs.Recorded.{AreRecorded}

-- the value, as contracts see it
pub record Current : Type 0 where
  -- the number of the run: a store begins with run 0
  pub run : ℕ
  -- the history of this run so far
  pub history : Story
  -- the number of sessions made so far, in all runs
  pub made : ℕ

-- the invariant of the value
pub record IsLocked (accepts : Meaning) (g : Current) : Type 0 where
  -- the limits are in their ranges
  pub in_range : AreInRange g.history.limits
  -- the history is legal
  pub legal : IsLegalStory accepts g.history
  -- the limits allow the sessions made so far
  pub few : g.made ≤ g.history.limits.sessions
  -- each event is of a session that was made
  pub below : All (λ e. e.session < g.made) g.history.events
  -- each event's call is recorded with its reply
  pub recorded : AreRecorded g.history.events

-- the session's next call is taken after the history of the value g, which leaves the value n
pub record IsTaken (accepts : Meaning) (g n : Current) (id : ℕ) (under : Option (List Member)) (call : Call) (reply : Reply) (front : Story) : Type 0 where
  -- the call is taken, with the session's next number; the front is the new history
  pub takes : Takes accepts g.history n.history id (next_number g.history id) call reply front
  -- the committee under which its block or certificate was checked, if it has one, is that of the history
  pub own : MatchesCommittee g.history.committee under
  -- the run goes on
  pub run : n.run ≡ g.run
  -- no session was made
  pub made : n.made ≡ g.made
  -- the value was in order
  pub locked : IsLocked accepts g

-- the session's next call takes no step after the history of the value g, for this cause, which is not its turn
pub record IsUntaken (accepts : Meaning) (g : Current) (id : ℕ) (under : Option (List Member)) (why : NoStep) : Type 0 where
  -- the cause applies
  pub refusal : IsRefusal g.history id (next_number g.history id) under why
  -- the call is in turn
  pub in_turn : why ≢ causes.OutOfTurn
  -- the value was in order
  pub locked : IsLocked accepts g

-- one more session is made, with this number, in this run
pub record IsEnrolled (accepts : Meaning) (g n : Current) (run id : ℕ) : Type 0 where
  pub run_is : run ≡ g.run
  -- its number is that of the sessions made before
  pub id_is : id ≡ g.made
  -- only the number of sessions changes
  pub grows : n ≡ record { run = g.run; history = g.history; made = g.made + 1 }
  -- the value was in order
  pub locked : IsLocked accepts g

-- the value has as many sessions as its limits allow
abbrev pub IsFullOf : Meaning → Current → Type 0
IsFullOf accepts g = (g.made ≡ g.history.limits.sessions) × IsLocked accepts g

-- the value has this history and this number of sessions
abbrev pub IsFound : Meaning → Current → Story → ℕ → Type 0
IsFound accepts g h made = (g.history ≡ h) × (g.made ≡ made) × IsLocked accepts g

-- the value that begins the next run: the history is empty, and its base is the state after this one
abbrev pub next_run : Current → Current
next_run g = record { run = g.run + 1; history = reopened g.history; made = g.made }

-- the run of the value g has ended with this history, and the value n begins the next run
pub record IsEnded (accepts : Meaning) (g n : Current) (last : Story) (run : ℕ) : Type 0 where
  pub last_is : last ≡ g.history
  pub next : n ≡ next_run g
  pub run_is : run ≡ n.run
  -- the value was in order
  pub locked : IsLocked accepts g
