-- Stores, and the settlement of their sessions.
use Rattle.std.specs.Prelude.{◌≡◌, ◌⊎◌, ℕ, ℤ, List, [], ◌∷◌, ◌++◌, All, map}
use Rattle.std.specs.List.{Contains}
use Rattle.nw_sig.specs.Signed.{Meaning}
use Rattle.nw_history.specs.Limits.{AreInRange}
use Rattle.nw_history.specs.Story.{first_origin, story_of}
use Rattle.nw_history.specs.declared.limits.Limits.{Limits}
use Rattle.nw_book.specs.Journal.{IsHistoryOf, origin_of}
use Rattle.nw_book.specs.Settled.{AreSettled}
use Rattle.nw_shared_store.specs.Recorded.{AreRecorded}
use Rattle.nw_shared_store.specs.Session.{IsSessionOf, IsUnmade, new_owner, with_owner, with_session}
use Rattle.nw_shared_store.specs.Settlement.{AreUnsettled, Kept, StillKnow, kept}
use Rattle.nw_shared_store.specs.declared.settlement.SettleFault.TheVariants as faults
use Rattle.nw_shared_store.specs.declared.error.Refusal.{Refusal}
use Rattle.nw_shared_store.specs.declared.error.Refusal.TheVariants as refusals
use Rattle.nw_c.specs.Codes.{step_code}
use Rattle.nw_c.specs.declared.codes.TheConstants.{BUSY, ENDED, TOO_MANY_SESSIONS}
use Rattle.nw_c.specs.declared.content.Content.{Content}
use Rattle.nw_c.specs.declared.content.Content.TheVariants as kind
use Rattle.nw_c.specs.declared.stores.CLimits.{CLimits}

-- the code of a call that a store refuses for this cause
abbrev pub refusal_code : Refusal → ℤ
refusal_code refusals.Busy = BUSY
refusal_code refusals.Ended = ENDED
refusal_code refusals.TooMany = TOO_MANY_SESSIONS
refusal_code (refusals.NoStep why) = step_code why

-- the limits as values of `nw_history`
abbrev pub limits_in : CLimits → Limits
limits_in l = record { blocks = l.blocks; events = l.events; window = l.window; sessions = l.sessions }

-- it is a new store of the committee, under these limits, with an empty history. No session and no other owner was made through this owner
abbrev pub IsEmptyStore : Content → CLimits → Content → Type 0
IsEmptyStore (kind.Committee members) limits (kind.Store store) = AreInRange (limits_in limits) × (store.first ≡ story_of (first_origin members (limits_in limits)) []) × (store ≡ new_owner store)
IsEmptyStore committee limits other = ⊥

-- the owner of a store made one more owner of it, and counted it
abbrev pub IsShared : Content → Content → Content → Type 0
IsShared (kind.Store old) (kind.Store new) (kind.Store other) = (other ≡ new_owner old) × (new ≡ with_owner old)
IsShared old new other = ⊥

-- it is a store with these limits
abbrev pub HasLimits : Content → CLimits → Type 0
HasLimits (kind.Store store) l = store.first.limits ≡ limits_in l
HasLimits other l = ⊥

-- it is a store and its committee
abbrev pub IsUnder : Content → Content → Type 0
IsUnder (kind.Store store) (kind.Committee members) = store.first.committee ≡ members
IsUnder one other = ⊥

-- the owner of a store made this session of it, which made no call, and counted it
abbrev pub MakesSession : Meaning → Content → Content → Content → Type 0
MakesSession accepts (kind.Store old) (kind.Store new) (kind.Session session) =
    IsSessionOf accepts old session × (new ≡ with_session old session.journal.id)
MakesSession accepts old new other = ⊥

-- the owner of a store made no session, for this cause. It changed only if it now knows that the limit on sessions is reached
abbrev pub MakesNoSession : Content → Content → Refusal → Type 0
MakesNoSession (kind.Store old) (kind.Store new) why = IsUnmade old new why
MakesNoSession old new why = ⊥

-- it is a settlement to which no session is given
abbrev pub IsEmptySettlement : Content → Type 0
IsEmptySettlement (kind.Settlement given) = given ≡ []
IsEmptySettlement other = ⊥

-- the session is given to the settlement as its last one
abbrev pub IsGiven : Content → Content → Content → Type 0
IsGiven (kind.Settlement old) (kind.Session session) (kind.Settlement new) = new ≡ old ++ session ∷ []
IsGiven old session new = ⊥

-- all sessions that one store made are given. The history is one of the present run, and it is an interleaving of their journals: of each
-- session it has exactly the calls of its journal, in order, and each front of a journal is a prefix of it. Each session now knows of it
abbrev pub IsSettled : Meaning → Content → Content → Type 0
IsSettled accepts (kind.Settlement given) (kind.History history) =
    AreSettled history (map (λ s. s.journal) given) × All (λ s. IsHistoryOf accepts (origin_of s.first) history) given
    × AreRecorded history.events × All (λ s. Contains s.journal.known history) given
IsSettled accepts settlement other = ⊥

-- the sessions that are given do not settle, because their store made another number of sessions, or one of them has another number than its
-- place or another history
abbrev pub IsUnsettled : Meaning → Content → Content → Type 0
IsUnsettled accepts (kind.Settlement old) (kind.Settlement new) =
    ((given : ℕ) × AreUnsettled accepts old new (faults.Unfinished given)) ⊎ ((place : ℕ) × AreUnsettled accepts old new (faults.Differs place))
IsUnsettled accepts old new = ⊥

-- both are settlements, and each session still knows of each history that it knew of
abbrev pub StillKnowAll : Content → Content → Type 0
StillKnowAll (kind.Settlement old) (kind.Settlement new) = StillKnow old new
StillKnowAll old new = ⊥

-- the stores, the runs, the numbers and the answers of the sessions that are given, in order
abbrev pub kept_in : Content → List Kept
kept_in (kind.Settlement given) = map kept given
kept_in other = []
