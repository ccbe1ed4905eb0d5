-- Runs that ended, and led to the present one.
use Rattle.nw_shared_store.proofs.Words.{◌≡◌, ℕ, ◌+◌, Bool, true, List, [], ◌∷◌, ◌++◌, length, refl, sym, ap, ◌∙◌, arith, Contains, Meaning, Story, IsLegalStory, reopened, IsPrefixOf, Journal, IsJournalOf}
use Rattle.std.proofs.lemmas.List.{append_assoc, length-append}
use Rattle.nw_shared_store.specs.Rule.{AreRuns, HasEnded}

-- no run ended
pub no_runs : (past : List Story) (run : ℕ) → length past ≡ run → 0 ≡ run → [] ≡ past
no_runs [] run count none = refl
no_runs (h ∷ hs) run count none = absurd (omega (arith, count, none))

-- one more run ended
pub one_more : (past : List Story) (run : ℕ) (n : Story) → length past ≡ run → length (past ++ n ∷ []) ≡ run + 1
one_more past run n count = length-append past (n ∷ []) ∙ ap (λ k. k + 1) count

runs_same : (accepts : Meaning) (last : Story) (hs : List Story) (n m : Story) → m.base ≡ n.base → AreRuns accepts last hs n → AreRuns accepts last hs m
runs_same accepts last [] n m is runs = (runs.0, is ∙ runs.1)
runs_same accepts last (h ∷ hs) n m is runs = (runs.0, runs.1, runs_same accepts h hs n m is runs.2)

runs_next : (accepts : Meaning) (last : Story) (hs : List Story) (n : Story) → IsLegalStory accepts n → AreRuns accepts last hs n → AreRuns accepts last (hs ++ n ∷ []) (reopened n)
runs_next accepts last [] n legal runs = (runs.0, runs.1, (legal, refl))
runs_next accepts last (h ∷ hs) n legal runs = (runs.0, runs.1, runs_next accepts h hs n legal runs.2)

-- the history has more events
pub ended_same : (accepts : Meaning) (acts : Bool) (j : Journal) (before past : List Story) (n m : Story) → m.base ≡ n.base → HasEnded accepts acts j before past n → HasEnded accepts acts j before past m
ended_same accepts acts j before past n m is e = record { last = e.last; later = e.later; all = e.all; runs = runs_same accepts e.last e.later n m is e.runs; begins = e.begins; part = e.part }

-- one more run ends
pub ended_next : (accepts : Meaning) (acts : Bool) (j : Journal) (before past : List Story) (n : Story) → IsLegalStory accepts n → HasEnded accepts acts j before past n → HasEnded accepts acts j before (past ++ n ∷ []) (reopened n)
ended_next accepts acts j before past n legal e = record {
  last = e.last;
  later = e.later ++ n ∷ [];
  all = ap (λ (l : List Story). l ++ n ∷ []) e.all ∙ append_assoc before (e.last ∷ e.later) (n ∷ []);
  runs = runs_next accepts e.last e.later n legal e.runs;
  begins = e.begins;
  part = e.part;
}

-- the run ends
pub ended_now : (accepts : Meaning) (acts : Bool) (j : Journal) (before past : List Story) (n : Story) → before ≡ past → IsLegalStory accepts n → ((s : Story) → Contains j.known s → IsPrefixOf s n)
    → (acts ≡ true → IsJournalOf n j.id j) → HasEnded accepts acts j before (past ++ n ∷ []) (reopened n)
ended_now accepts acts j before past n all legal begins part = record { last = n; later = []; all = ap (λ (l : List Story). l ++ n ∷ []) (sym all); runs = (legal, refl); begins = begins; part = part }
