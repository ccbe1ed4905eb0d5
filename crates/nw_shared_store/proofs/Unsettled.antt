-- Sessions that do not settle, from what each step says.
use Rattle.nw_shared_store.proofs.Words.{◌≡◌, ℕ, ◌+◌, List, ◌∷◌, Result, Ok, Err, length, ◌∙◌, subst, inl, inr, IfErr, Meaning, Story}
use Rattle.nw_shared_store.specs.Session.{SessionView}
use Rattle.nw_shared_store.specs.Settlement.{AreApart, AreUnsettled, HasFound, IsApart, IsNoFirst}
use Rattle.nw_shared_store.specs.declared.settlement.SettleFault.{SettleFault}
use Rattle.nw_shared_store.specs.declared.settlement.SettleFault.TheVariants as faults

-- the first session of some does not fit
pub first_apart : (accepts : Meaning) (n : ℕ) (h : Story) (s t : SessionView) (ss ts : List SessionView) (why : SettleFault) → IsApart accepts n h s t why → AreApart accepts n h (s ∷ ss) (t ∷ ts) why
first_apart accepts n h s t ss ts (faults.Unfinished given) apart = apart
first_apart accepts n h s t ss ts (faults.Differs place) apart = inl apart
first_apart accepts n h s t ss ts (faults.Refused why) apart = apart

-- a later one
pub later_apart : (accepts : Meaning) (n : ℕ) (h : Story) (s t : SessionView) (ss ts : List SessionView) (why : SettleFault) → AreApart accepts (n + 1) h ss ts why → AreApart accepts n h (s ∷ ss) (t ∷ ts) why
later_apart accepts n h s t ss ts (faults.Unfinished given) apart = apart
later_apart accepts n h s t ss ts (faults.Differs place) apart = inr apart
later_apart accepts n h s t ss ts (faults.Refused why) apart = apart

-- the first of all sessions gives no history
pub no_first : (accepts : Meaning) (s t : SessionView) (ss ts : List SessionView) (why : SettleFault) → IsNoFirst accepts (length (s ∷ ss)) s t why → AreUnsettled accepts (s ∷ ss) (t ∷ ts) why
no_first accepts s t ss ts (faults.Unfinished given) is = (is.0, (is.1.0, is.1.1, is.1.2, (λ same. is.1.3 (same ∙ is.0))))
no_first accepts s t ss ts (faults.Differs place) is = (is.1.0, is.1.1, inl (is.0, (is.1.0, length (s ∷ ss), is.1.1, (λ zero _. is.1.2 zero))))
no_first accepts s t ss ts (faults.Refused why) is = is

-- the first one gives this history, which another does not fit
pub unsettled : (accepts : Meaning) (h : Story) (s t : SessionView) (ss ts : List SessionView) (why : SettleFault) → HasFound accepts s t h (length (s ∷ ss)) → AreApart accepts 1 h ss ts why
    → AreUnsettled accepts (s ∷ ss) (t ∷ ts) why
unsettled accepts h s t ss ts (faults.Unfinished given) found apart = absurd apart
unsettled accepts h s t ss ts (faults.Differs place) found apart = (h, found, inr apart)
unsettled accepts h s t ss ts (faults.Refused why) found apart = apart

pub first_apart_of : {A : Type 0} (accepts : Meaning) (n : ℕ) (h : Story) (s t : SessionView) (ss ts : List SessionView) (r : Result A SettleFault) → IfErr r (IsApart accepts n h s t)
    → IfErr r (AreApart accepts n h (s ∷ ss) (t ∷ ts))
first_apart_of accepts n h s t ss ts (Ok a) apart = tt
first_apart_of accepts n h s t ss ts (Err why) apart = first_apart accepts n h s t ss ts why apart

pub later_apart_of : {A : Type 0} (accepts : Meaning) (n : ℕ) (h : Story) (s t : SessionView) (ss ts : List SessionView) (r : Result A SettleFault) → IfErr r (AreApart accepts (n + 1) h ss ts)
    → IfErr r (AreApart accepts n h (s ∷ ss) (t ∷ ts))
later_apart_of accepts n h s t ss ts (Ok a) apart = tt
later_apart_of accepts n h s t ss ts (Err why) apart = later_apart accepts n h s t ss ts why apart

pub no_first_of : {A : Type 0} (accepts : Meaning) (s t : SessionView) (ss ts : List SessionView) (given : ℕ) (r : Result A SettleFault) → given ≡ length (s ∷ ss) → IfErr r (IsNoFirst accepts given s t)
    → IfErr r (AreUnsettled accepts (s ∷ ss) (t ∷ ts))
no_first_of accepts s t ss ts given (Ok a) all is = tt
no_first_of accepts s t ss ts given (Err why) all is = no_first accepts s t ss ts why (subst (λ n. IsNoFirst accepts n s t why) all is)

pub unsettled_of : {A : Type 0} (accepts : Meaning) (h : Story) (s t : SessionView) (ss ts : List SessionView) (given : ℕ) (r : Result A SettleFault) → given ≡ length (s ∷ ss) → HasFound accepts s t h given
    → IfErr r (AreApart accepts 1 h ss ts) → IfErr r (AreUnsettled accepts (s ∷ ss) (t ∷ ts))
unsettled_of accepts h s t ss ts given (Ok a) all found apart = tt
unsettled_of accepts h s t ss ts given (Err why) all found apart = unsettled accepts h s t ss ts why (subst (HasFound accepts s t h) all found) apart
