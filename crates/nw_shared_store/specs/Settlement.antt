-- Settlement of sessions, each with the history of its own store.
use Rattle.std.specs.Prelude.{◌≡◌, ◌≢◌, ℕ, ◌+◌, List, [], ◌∷◌, length}
use Rattle.nw_sig.specs.Signed.{Meaning}
use Rattle.nw_history.specs.Story.{Story}
use Rattle.nw_book.specs.Answer.{AnswerView}
use Rattle.std.specs.List.{Contains}
use Rattle.nw_book.specs.Journal.{IsHistoryOf, KnowsAll, origin_of}
use Rattle.nw_book.specs.Settled.{IsJournalOf}
use Rattle.atomic_table.specs.Seated.{TableId}
use mathlib.Core.Logic.{◌⊎◌}
use Rattle.nw_shared_store.specs.Rule.{knowing}
use Rattle.nw_shared_store.specs.Session.{IsPresent, IsUnseen, SessionView}
use Rattle.nw_shared_store.specs.declared.settlement.SettleFault.{SettleFault}
use Rattle.nw_shared_store.specs.declared.settlement.SettleFault.TheVariants as faults

-- what a session keeps when it looks at its store's history
pub record Kept : Type 0 where
  -- the table of its store's lock
  pub lock : TableId
  -- its run
  pub run : ℕ
  -- the last histories of the runs before it
  pub past : List Story
  -- the history of the run when it came to it
  pub first : Story
  -- its number
  pub id : ℕ
  -- its answers
  pub answers : List AnswerView

abbrev pub kept : SessionView → Kept
kept s = record { lock = s.lock; run = s.run; past = s.past; first = s.first; id = s.journal.id; answers = s.journal.answers }

-- the history is one of the session's store, and has exactly the calls of its journal
pub record IsPart (accepts : Meaning) (id : ℕ) (history : Story) (s : SessionView) : Type 0 where
  pub of_store : IsHistoryOf accepts (origin_of s.first) history
  pub journal : IsJournalOf history id s.journal
  -- it knows of the history, which so was under its store's lock
  pub knows : Contains s.journal.known history

-- each session still knows of each history that it knew of
abbrev pub StillKnow : List SessionView → List SessionView → Type 0
StillKnow [] [] = Unit {0}
StillKnow (s ∷ ss) (t ∷ ts) = KnowsAll t.journal.known s.journal.known × StillKnow ss ts
StillKnow old new = ⊥

-- so of the sessions n, n + 1, .. in order
abbrev pub AreParts : Meaning → ℕ → Story → List SessionView → Type 0
AreParts accepts n history [] = Unit {0}
AreParts accepts n history (s ∷ ss) = IsPart accepts n history s × AreParts accepts (n + 1) history ss

-- the session saw this present history of its run, in which its store has made this many sessions, and now knows of it
abbrev pub HasFound : Meaning → SessionView → SessionView → Story → ℕ → Type 0
HasFound accepts old new h made = IsPresent accepts (origin_of old.first) old.journal h made × (new.journal ≡ knowing old.journal h)

-- the session has another number than n, or the present history of its run is another one than h
abbrev pub IsMisfit : Meaning → ℕ → Story → SessionView → SessionView → Type 0
IsMisfit accepts n h old new = (now : Story) × (made : ℕ) × HasFound accepts old new now made × (old.journal.id ≡ n → now ≡ h → ⊥)

-- of the sessions that should have the numbers n, n + 1, .., the one at this place is a misfit
abbrev pub HasMisfit : Meaning → ℕ → Story → List SessionView → List SessionView → ℕ → Type 0
HasMisfit accepts n h (s ∷ ss) (t ∷ ts) place = ((place ≡ n) × IsMisfit accepts n h s t) ⊎ HasMisfit accepts (n + 1) h ss ts place
HasMisfit accepts n h old new place = ⊥

-- why this session, which should have the number n, does not fit the history
abbrev pub IsApart : Meaning → ℕ → Story → SessionView → SessionView → SettleFault → Type 0
IsApart accepts n h old new (faults.Unfinished given) = ⊥
IsApart accepts n h old new (faults.Differs place) = (place ≡ n) × IsMisfit accepts n h old new
IsApart accepts n h old new (faults.Refused why) = IsUnseen why

-- why one of these sessions does not fit the history
abbrev pub AreApart : Meaning → ℕ → Story → List SessionView → List SessionView → SettleFault → Type 0
AreApart accepts n h old new (faults.Unfinished given) = ⊥
AreApart accepts n h old new (faults.Differs place) = HasMisfit accepts n h old new place
AreApart accepts n h old new (faults.Refused why) = IsUnseen why

-- why the first session gives no history for so many sessions
abbrev pub IsNoFirst : Meaning → ℕ → SessionView → SessionView → SettleFault → Type 0
IsNoFirst accepts given old new (faults.Unfinished count) = (count ≡ given) × ((h : Story) × (made : ℕ) × HasFound accepts old new h made × (made ≢ given))
IsNoFirst accepts given old new (faults.Differs place) = (place ≡ 0) × ((h : Story) × HasFound accepts old new h given × (old.journal.id ≢ 0))
IsNoFirst accepts given old new (faults.Refused why) = IsUnseen why

-- why the sessions do not settle. The store of the first one has not made as many sessions as were given, or none was given. Or it has, and the
-- session at this place is a misfit: its number is not its place, or the present history of its run is not that of the first session's run. Or
-- the history of a session could not be read
abbrev pub AreUnsettled : Meaning → List SessionView → List SessionView → SettleFault → Type 0
AreUnsettled accepts (s ∷ ss) (t ∷ ts) (faults.Unfinished given) =
    (given ≡ length (s ∷ ss)) × ((h : Story) × (made : ℕ) × HasFound accepts s t h made × (made ≢ given))
AreUnsettled accepts (s ∷ ss) (t ∷ ts) (faults.Differs place) =
    (h : Story) × HasFound accepts s t h (length (s ∷ ss)) × HasMisfit accepts 0 h (s ∷ ss) (t ∷ ts) place
AreUnsettled accepts old new (faults.Unfinished given) = (old ≡ []) × (given ≡ 0)
AreUnsettled accepts old new (faults.Differs place) = ⊥
AreUnsettled accepts old new (faults.Refused why) = IsUnseen why
