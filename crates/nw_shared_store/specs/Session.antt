-- Shared stores and their sessions, as contracts see them.
use Rattle.std.specs.Prelude.{◌≡◌, ℕ, ◌+◌, ◌<◌, ◌≤◌, ⊤, Bool, true, false, List, [], ◌∷◌, ◌++◌, Option, All, length}
use Rattle.std.specs.List.{Contains}
use Rattle.atomic_table.specs.Seated.{TableId}
use Rattle.atomic_table.specs.Table.{Me}
use Rattle.nw_committee.specs.declared.member.Member.{Member}
use Rattle.nw_sig.specs.Signed.{Meaning}
use Rattle.nw_history.specs.Story.{Story, Origin, reopened}
use Rattle.nw_book.specs.Journal.{Journal, IsHistoryOf, next_in_journal, origin_of}
use Rattle.nw_book.specs.Turn.{IsRefusal}
use Rattle.nw_book.specs.Settled.{IsJournalOf}
use Rattle.nw_history.specs.Prefix.{IsPrefixOf}
use Rattle.nw_book.specs.declared.error.NoStep.TheVariants as causes
use Rattle.nw_shared_store.specs.Locked.{Current}
use Rattle.nw_shared_store.specs.Recorded.{AreRecorded}
use Rattle.nw_shared_store.specs.Rule.{HasEnded, SeatView, IsSeatAt, knowing, member, new_journal, owner_of, told}
use Rattle.nw_shared_store.specs.declared.error.Refusal.{Refusal}
use Rattle.nw_shared_store.specs.declared.error.Refusal.TheVariants as refusals

-- an owner of a store
pub record StoreView : Type 0 where
  -- the table of the store's lock, which no other store has
  pub lock : TableId
  -- the history with which the store began
  pub first : Story
  -- the number of sessions that were made through this owner
  pub made : ℕ
  -- the number of owners that were made through this owner
  pub shares : ℕ
  -- the number of sessions that the store had made, when it last made one through this owner or refused to
  pub known : ℕ

-- the owner, after the session with this number was made through it
abbrev pub with_session : StoreView → ℕ → StoreView
with_session s id = record { lock = s.lock; first = s.first; made = s.made + 1; shares = s.shares; known = id }

-- the owner, which knows that the store has made this many sessions
abbrev pub with_known : StoreView → ℕ → StoreView
with_known s known = record { lock = s.lock; first = s.first; made = s.made; shares = s.shares; known = known }

-- the owner, after one more owner was made through it
abbrev pub with_owner : StoreView → StoreView
with_owner s = record { lock = s.lock; first = s.first; made = s.made; shares = s.shares + 1; known = s.known }

-- a new owner of the same store
abbrev pub new_owner : StoreView → StoreView
new_owner s = record { lock = s.lock; first = s.first; made = 0; shares = 0; known = 0 }

-- the owner with this seat
abbrev pub owner_at : TableId → Story → Me Current SeatView → StoreView
owner_at lock first me = record { lock = lock; first = first; made = me.0.right.made; shares = me.0.right.shares; known = me.0.right.known }

-- the seat of an owner
pub record IsOwnerAt (lock : TableId) (first : Story) (seat : TableId) (me : Me Current SeatView) : Type 0 where
  -- the seat is one of the store's lock
  pub at : IsSeatAt lock seat
  -- it may make sessions and owners, and has neither the lock nor a session
  pub owner_is : me ≡ (owner_of first me.0.right.made me.0.right.shares me.0.right.known, [])

-- a session of a store
pub record SessionView : Type 0 where
  -- the table of the store's lock
  pub lock : TableId
  -- the number of its run: a store begins with run 0
  pub run : ℕ
  -- the last histories of the runs before it, in order
  pub past : List Story
  -- whether a call was told that this run has ended
  pub over : Bool
  -- the history of the run when the session came to it
  pub first : Story
  -- its journal of this run
  pub journal : Journal

-- the session is the same, and of the same run
pub record IsSameSession (one other : SessionView) : Type 0 where
  pub lock : other.lock ≡ one.lock
  pub run : other.run ≡ one.run
  pub past : other.past ≡ one.past
  -- what it was told stays so
  pub over : one.over ≡ true → other.over ≡ true
  pub first : other.first ≡ one.first
  pub id : other.journal.id ≡ one.journal.id

-- the session is new, and of this store
pub record IsSessionOf (accepts : Meaning) (store : StoreView) (s : SessionView) : Type 0 where
  pub lock : s.lock ≡ store.lock
  -- it has the store's committee
  pub committee : s.first.committee ≡ store.first.committee
  -- it has the store's limits
  pub limits : s.first.limits ≡ store.first.limits
  -- the history of run 0 begins with the first one
  pub begins : s.run ≡ 0 → IsPrefixOf store.first s.first
  -- a later run follows run 0, whose last history began with the first one
  pub follows : (s.run ≡ 0 → ⊥) → HasEnded accepts false (new_journal 0 (store.first ∷ [])) [] s.past s.first
  -- it knows the last history of each ended run
  pub runs : length s.past ≡ s.run
  pub over : s.over ≡ false
  -- it made no call
  pub answers : s.journal.answers ≡ []
  -- its number is that of the sessions that the store made before it: those that the owner knew of, and those of the events so far
  pub number : store.known ≤ s.journal.id
  pub earlier : All (λ e. e.session < s.journal.id) s.first.events

-- the history is of this store: it is legal, with the store's committee and limits
pub record IsOfStore (accepts : Meaning) (store : StoreView) (h : Story) : Type 0 where
  pub legal : IsHistoryOf accepts (origin_of h) h
  pub committee : h.committee ≡ store.first.committee
  pub limits : h.limits ≡ store.first.limits
  -- each event's call is recorded with its reply
  pub recorded : AreRecorded h.events

-- the seat of the session with this number in this run: `me` is its view and its slots
pub record IsSessionAt (lock : TableId) (run id : ℕ) (seat : TableId) (me : Me Current SeatView) : Type 0 where
  -- the seat is one of the store's lock
  pub at : IsSeatAt lock seat
  -- it has a session and not the lock
  pub member_is : me ≡ (member me.0.run me.0.past me.0.over me.0.first me.0.journal, [])
  -- the session has this number
  pub id_is : me.0.journal.id ≡ id
  -- it is of this run
  pub run_is : me.0.run ≡ run
  -- the session knows of the history of the run when it came to it
  pub knows_first : Contains me.0.journal.known me.0.first

-- a refusal that may pass: the lock is taken, or an allocation failed
abbrev pub IsPassing : Refusal → Type 0
IsPassing refusals.Busy = Unit {0}
IsPassing refusals.Ended = ⊥
IsPassing refusals.TooMany = ⊥
IsPassing (refusals.NoStep why) = why ≡ causes.NoMemory

-- why no session is made: the refusal may pass, and then nothing changed; or the owner now knows that the store has made as many sessions as
-- the limit allows
abbrev pub IsUnmade : StoreView → StoreView → Refusal → Type 0
IsUnmade old new refusals.Busy = new ≡ old
IsUnmade old new refusals.Ended = ⊥
IsUnmade old new refusals.TooMany = new ≡ with_known old old.first.limits.sessions
IsUnmade old new (refusals.NoStep why) = (why ≡ causes.NoMemory) × (new ≡ old)

-- what a seat that wanted to take its session's turn knows: nothing more if the lock is taken, and otherwise that its run has ended
abbrev pub IsTurnedAway : Me Current SeatView → Me Current SeatView → Refusal → Type 0
IsTurnedAway old new refusals.Busy = new ≡ old
IsTurnedAway old new refusals.Ended = new ≡ (told old.0, [])
IsTurnedAway old new other = ⊥

-- the session cannot see the history now: the lock is taken, or its run has ended
abbrev pub IsUnavailable : Refusal → Type 0
IsUnavailable refusals.Busy = Unit {0}
IsUnavailable refusals.Ended = Unit {0}
IsUnavailable other = ⊥

-- why a session does not see the history: the refusal may pass, or the session's run has ended
abbrev pub IsUnseen : Refusal → Type 0
IsUnseen refusals.Ended = Unit {0}
IsUnseen other = IsPassing other

-- the history is that of the session's run, in which the store has made this many sessions
pub record IsPresent (accepts : Meaning) (origin : Origin) (j : Journal) (h : Story) (made : ℕ) : Type 0 where
  -- it is one of the run's histories
  pub of_store : IsHistoryOf accepts origin h
  -- the session's journal is all that it has of the session
  pub own : IsJournalOf h j.id j
  -- each history that the session knew of is a prefix of it
  pub begins : (s : Story) → Contains j.known s → IsPrefixOf s h
  -- each event is of a session that was made
  pub below : All (λ e. e.session < made) h.events
  -- each event's call is recorded with its reply
  pub recorded : AreRecorded h.events
  -- the session was made
  pub session : j.id < made

-- the session saw the present history of its run, of which this is true, and now knows of it
abbrev pub HasSeen : Meaning → SessionView → SessionView → (Story → Type 0) → Type 0
HasSeen accepts old new then =
    (h : Story) × (made : ℕ) × IsPresent accepts (origin_of old.first) old.journal h made × (new.journal ≡ knowing old.journal h) × then h

-- the session was told that its run has ended
abbrev pub ended : SessionView → SessionView
ended s = record { lock = s.lock; run = s.run; past = s.past; over = true; first = s.first; journal = s.journal }

-- a session that does not see the history stays as it was, or knows from now on that its run has ended
abbrev pub IsKept : SessionView → SessionView → Refusal → Type 0
IsKept old new refusals.Ended = new ≡ ended old
IsKept old new other = new ≡ old

-- why a session's call takes no step. The lock is taken: then nothing changed. The session's run has ended, as it knows from now on. Or a
-- cause applies after the present history of the run, and from now on the session knows of this history. A session's own call is never out of
-- turn
abbrev pub IsRefusedBy : Meaning → SessionView → SessionView → Option (List Member) → Refusal → Type 0
IsRefusedBy accepts old new under refusals.Busy = new ≡ old
IsRefusedBy accepts old new under refusals.Ended = new ≡ ended old
IsRefusedBy accepts old new under refusals.TooMany = ⊥
IsRefusedBy accepts old new under (refusals.NoStep why) =
    (why ≡ causes.OutOfTurn → ⊥) × HasSeen accepts old new (λ h. IsRefusal h old.journal.id (next_in_journal old.journal) under why)

-- the session ended the run, which has this last history, and is of the next run, whose base is the state after it
pub record IsRestarted (accepts : Meaning) (old new : SessionView) (last : Story) : Type 0 where
  -- the last history is the present one
  pub present : (made : ℕ) × IsPresent accepts (origin_of old.first) old.journal last made
  pub lock : new.lock ≡ old.lock
  pub run : new.run ≡ old.run + 1
  -- it is what each session of a later run knows as the last history of the ended run
  pub past : new.past ≡ old.past ++ last ∷ []
  -- no call was told before that the run had ended, and none that the next one has
  pub over : (old.over ≡ false) × (new.over ≡ false)
  pub first : new.first ≡ reopened last
  -- the session made no call in this run
  pub journal : new.journal ≡ new_journal old.journal.id (reopened last ∷ [])

-- the session is of the present run: it saw the history of its run, or it has come to a later run, in which it made no call
pub record IsRenewed (accepts : Meaning) (old new : SessionView) : Type 0 where
  pub lock : new.lock ≡ old.lock
  pub run : old.run ≤ new.run
  pub seen : new.run ≡ old.run → IsSameSession old new × HasSeen accepts old new (λ h. ⊤)
  -- the store's committee and limits are the same in each run
  pub committee : new.first.committee ≡ old.first.committee
  pub limits : new.first.limits ≡ old.first.limits
  -- the history of a later run is legal
  pub legal : (new.run ≡ old.run → ⊥) → IsHistoryOf accepts (origin_of new.first) new.first
  -- each event's call is recorded with its reply
  pub recorded : (new.run ≡ old.run → ⊥) → AreRecorded new.first.events
  -- the session's run ended with a history that has exactly its calls, and led to the later run
  pub ended : (new.run ≡ old.run → ⊥) → HasEnded accepts true old.journal old.past new.past new.first
  -- the session knows the last history of each ended run
  pub runs : (new.run ≡ old.run → ⊥) → length new.past ≡ new.run
  -- if a call was told that the run has ended, it has
  pub over : old.over ≡ true → new.run ≡ old.run → ⊥
  pub goes_on : new.over ≡ false
  -- the session made no call in it
  pub journal : (new.run ≡ old.run → ⊥) → new.journal ≡ new_journal old.journal.id (new.first ∷ [])
