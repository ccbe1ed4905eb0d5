-- The origin of a store's histories, and the journals of its sessions.
use Rattle.std.specs.Prelude.{◌≡◌, ℕ, ◌+◌, List, [], ◌∷◌, ◌++◌, length, All}
use Rattle.std.specs.List.{Contains}
use mathlib.Core.Logic.{◌⊎◌}
use Rattle.nw_sig.specs.Signed.{Meaning}
use Rattle.nw_model.specs.declared.event.Event.{Event}
use Rattle.nw_history.specs.Story.{Story, Origin, IsLegalStory}
use Rattle.nw_history.specs.Prefix.{IsPrefixOf}
use Rattle.nw_book.specs.Answer.{AnswerView}

-- the origin of a history: its committee, its limits and its base
abbrev pub origin_of : Story → Origin
origin_of s = record { committee = s.committee; limits = s.limits; base = s.base }

-- the history is legal and has this origin
pub record IsHistoryOf (accepts : Meaning) (origin : Origin) (s : Story) : Type 0 where
  -- the history has this origin
  pub starts : origin_of s ≡ origin
  -- the history is legal
  pub legal : IsLegalStory accepts s

-- the journal of a session
pub record Journal : Type 0 where
  -- the session's number
  pub id : ℕ
  -- the session's answers, in order
  pub answers : List AnswerView
  -- the histories that the session knows of
  pub known : List Story

-- each front is a prefix of the history
abbrev pub ArePrefixesOf : Story → List AnswerView → Type 0
ArePrefixesOf history answers = All (λ a. IsPrefixOf a.front history) answers

-- of an answer from each list, one's front is a prefix of the other's
abbrev pub AreComparable : List AnswerView → List AnswerView → Type 0
AreComparable answers others = All (λ a. All (λ b. IsPrefixOf a.front b.front ⊎ IsPrefixOf b.front a.front) others) answers

-- the known histories include all of the others
abbrev pub KnowsAll : List Story → List Story → Type 0
KnowsAll known others = (s : Story) → Contains others s → Contains known s

-- the number of the session's next call
abbrev pub next_in_journal : Journal → ℕ
next_in_journal j = length j.answers + 1

-- the journal with one more answer; its session now knows of these histories
abbrev pub with_answer : Journal → Event → Story → List Story → Journal
with_answer j e front known = record { id = j.id; answers = j.answers ++ record { event = e; front = front } ∷ []; known = known }
