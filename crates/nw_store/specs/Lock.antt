-- The value under a store's lock, and the invariants of the lock and of its sessions.
use Rattle.std.specs.Prelude.{◌≡◌, ℕ, ◌+◌, ◌<◌, ◌≤◌, List, [], ◌∷◌, ◌++◌, length, All}
use Rattle.std.specs.List.{Contains}
use Rattle.nw_sig.specs.Signed.{Meaning}
use Rattle.nw_model.specs.declared.event.Event.{Event}
use Rattle.nw_history.specs.Limits.{AreInRange, most_sessions}
use Rattle.nw_history.specs.Story.{Story, IsLegalStory}
use Rattle.nw_history.specs.Prefix.{IsPrefixOf}
use Rattle.nw_book.specs.Answer.{AnswerView}
use Rattle.nw_book.specs.Journal.{Journal}

-- the value under a store's lock, as contracts see it
pub record Guarded : Type 0 where
  -- the history so far
  pub history : Story
  -- the number of sessions made so far
  pub made : ℕ

-- the number of parts of a store's ledger: one for each possible session, and one more
abbrev pub parts_of_a_ledger : ℕ
parts_of_a_ledger = most_sessions + 1

-- the front of each answer is one of these fronts
abbrev pub AreAmong : List Story → List AnswerView → Type 0
AreAmong fronts answers = All (λ a. Contains fronts a.front) answers

-- the invariant of the lock: `total` is what the ledger counts, `spare` the number of its spare parts, `idle` what these count, and
-- `log` the fronts that the store handed out
pub record IsLocked (accepts : Meaning) (held : Guarded) (total spare idle : ℕ) (log : List Story) : Type 0 where
  -- the limits are in their ranges
  pub in_range : AreInRange held.history.limits
  -- the history is legal
  pub legal : IsLegalStory accepts held.history
  -- the limits allow the sessions made so far
  pub few : held.made ≤ held.history.limits.sessions
  -- each part of the ledger is spare or belongs to a session
  pub shared : spare + held.made ≡ parts_of_a_ledger
  -- the spare parts count no calls
  pub unused : idle ≡ 0
  -- the ledger counts the events of the history
  pub counted : total ≡ length held.history.events
  -- each front in the log is a prefix of the history
  pub begun : All (λ front. IsPrefixOf front held.history) log

-- the answer is to this session's call with this number
pub record AnswersCall (id number : ℕ) (a : AnswerView) : Type 0 where
  -- the event has the session's number
  pub session : a.event.session ≡ id
  -- the event has the call's number
  pub number_is : a.event.number ≡ number
  -- the front ends with the event
  pub last : (earlier : List Event) × (a.front.events ≡ earlier ++ a.event ∷ [])

-- the answers are to this session's calls, numbered from n on
abbrev pub AreAnswers : ℕ → ℕ → List AnswerView → Type 0
AreAnswers id n [] = Unit {0}
AreAnswers id n (a ∷ others) = AnswersCall id n a × AreAnswers id (n + 1) others

-- the invariant of a session, which has `parts` parts of the ledger that count `amount` calls
pub record IsSession (parts amount : ℕ) (j : Journal) : Type 0 where
  -- the id is below the maximum number of sessions
  pub id_below : j.id < most_sessions
  -- the session has one part of the ledger
  pub part : parts ≡ 1
  -- this part counts the session's answers
  pub counted : amount ≡ length j.answers
  -- the session knows of the front of each of its answers
  pub answers_known : AreAmong j.known j.answers
  -- the answers are to the session's calls, numbered from 1
  pub numbered : AreAnswers j.id 1 j.answers
