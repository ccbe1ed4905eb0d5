-- Settled stores: all sessions that a store made, and their journals.
use Rattle.std.specs.Prelude.{◌≡◌, ℕ, ◌+◌, List, [], ◌∷◌, Some, map, slice_get}
use Rattle.std.specs.List.{range_with_len}
use Rattle.std.specs.List.Sorted.{IsPermutation}
use Rattle.nw_history.specs.Story.{Story}
use Rattle.nw_book.specs.Journal.{Journal, AreComparable}

-- the journals are those of sessions n, n + 1, .. in order
abbrev pub AreInOrder : ℕ → List Journal → Type 0
AreInOrder n [] = Unit {0}
AreInOrder n (j ∷ js) = (j.id ≡ n) × AreInOrder (n + 1) js

-- the ids of the journals, in order
abbrev pub ids_of : List Journal → List ℕ
ids_of js = map (λ j. j.id) js

-- the journals are those of all sessions that the store made: their ids are 0 to made - 1, each once, in any order
abbrev pub AreAllSessions : ℕ → List Journal → Type 0
AreAllSessions made js = IsPermutation (ids_of js) (range_with_len 0 made)

-- of any two answers of any two journals, one's front is a prefix of the other's
abbrev pub AreAllComparable : List Journal → Type 0
AreAllComparable js = (i k : ℕ) (one two : Journal) → slice_get js i ≡ Some one → slice_get js k ≡ Some two → AreComparable one.answers two.answers

-- a settled store, as contracts see it
pub record Settlement : Type 0 where
  -- the whole history
  pub history : Story
  -- the number of sessions that the store made
  pub made : ℕ
  -- the journals, in the order of their sessions
  pub journals : List Journal
