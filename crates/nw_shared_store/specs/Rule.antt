-- The rule of the lock: a table of one word and one slot. The word is 0 while the value is in the slot, and positive while the holder of the
-- lock has it. A seat is a token of the kit's `atomic_table` that takes no bytes: its owner takes steps on the table with it, and it has a
-- view, which is what the owner knows.
use Rattle.std.specs.Prelude.{◌≡◌, ℕ, suc, ◌+◌, ◌<◌, ◌≤◌, Bool, List, [], ◌∷◌, ◌++◌, true, false, Option, Some, None, drop, length, map}
use Rattle.std.specs.List.{Contains}
use mathlib.Core.Option.{some, none}
use mathlib.Core.Logic.{◌⊎◌}
use lib.ListN.{get_elem?}
use Rattle.atomic_table.specs.Table.{State, Step, Me}
use Rattle.atomic_table.specs.Seated.{TableId}
use Rattle.nw_sig.specs.Signed.{Meaning}
use Rattle.nw_model.specs.History.{events_of}
use Rattle.nw_model.specs.State.{opening}
use Rattle.nw_model.specs.declared.event.Event.{Event}
use Rattle.nw_history.specs.Story.{Story, IsLegalStory, state_of, with_event}
use Rattle.nw_history.specs.Prefix.{IsPrefixOf}
use Rattle.nw_book.specs.Journal.{Journal}
use Rattle.nw_book.specs.Settled.{IsJournalOf}
use Rattle.nw_shared_store.specs.Locked.{Current, next_run}
use Rattle.nw_shared_store.specs.declared.knowledge.Knowledge.{Knowledge}
use Rattle.nw_shared_store.specs.declared.knowledge.Right.{Right}

-- what a seat knows, as contracts see it
abbrev pub SeatView : Type 0
SeatView = Knowledge Current Story Journal

-- a journal without answers, of a session that knows of these histories
abbrev pub new_journal : ℕ → List Story → Journal
new_journal id known = record { id = id; answers = []; known = known }

-- the right to make nothing
abbrev pub no_right : Right
no_right = record { one = false; owns = false; made = 0; shares = 0; known = 0 }

-- a seat that has neither the lock nor a session, and knows of the first history of the store
abbrev pub hearer : Story → SeatView
hearer first = record { holds = None; acts = false; run = 0; past = []; over = false; other = []; first = first; journal = new_journal 0 (first ∷ []); right = no_right }

-- the seat with this right
abbrev pub with_right : SeatView → Right → SeatView
with_right v r = record { holds = v.holds; acts = v.acts; run = v.run; past = v.past; over = v.over; other = v.other; first = v.first; journal = v.journal; right = r }

-- the seat of an owner, through which so many sessions and owners were made, and which knows of so many sessions
abbrev pub owner_of : Story → ℕ → ℕ → ℕ → SeatView
owner_of first made shares known = with_right (hearer first) (record { one = false; owns = true; made = made; shares = shares; known = known })

-- the seat of the session with this journal, without the lock. The session is of this run, which the runs with these last histories came
-- before, and knew of this history when it came to it. `over` says whether the session was told that this run has ended
abbrev pub member : ℕ → List Story → Bool → Story → Journal → SeatView
member run past over first j = record { holds = None; acts = true; run = run; past = past; over = over; other = []; first = first; journal = j; right = no_right }

-- the seat, once it has the lock and with it this value
abbrev pub holder_of : Current → SeatView → SeatView
holder_of now v = record { holds = Some now; acts = v.acts; run = v.run; past = v.past; over = v.over; other = v.other; first = v.first; journal = v.journal; right = v.right }

-- the seat without the lock, with this journal
abbrev pub with_journal : SeatView → Journal → SeatView
with_journal v j = record { holds = None; acts = v.acts; run = v.run; past = v.past; over = v.over; other = v.other; first = v.first; journal = j; right = v.right }

-- the seat without the lock
abbrev pub freed : SeatView → SeatView
freed v = with_journal v v.journal

-- the seat without the lock, which was told that its run has ended
abbrev pub told : SeatView → SeatView
told v = record { holds = None; acts = v.acts; run = v.run; past = v.past; over = true; other = v.other; first = v.first; journal = v.journal; right = v.right }

-- the seat of a session that comes to the run of this value, which the runs with these last histories came before
abbrev pub newcomer : List Story → Current → ℕ → SeatView
newcomer past now id = member now.run past false now.history (new_journal id (now.history ∷ []))

-- a seat that knows no more than this one's list of last histories
abbrev pub witness : SeatView → SeatView
witness v = record { holds = None; acts = false; run = v.run; past = v.past; over = false; other = []; first = v.first; journal = new_journal 0 []; right = no_right }

-- a witness that also knows the list of another one
abbrev pub witness_of_two : SeatView → SeatView → SeatView
witness_of_two v w = record { holds = None; acts = false; run = v.run; past = v.past; over = false; other = w.past; first = v.first; journal = new_journal 0 []; right = no_right }

-- a history that no store has
abbrev pub blank : Story
blank = record { committee = []; limits = record { blocks = 0; events = 0; window = 0; sessions = 0 }; base = opening; events = [] }

-- a seat that knows nothing
abbrev pub nobody : SeatView
nobody = record { holds = None; acts = false; run = 0; past = []; over = false; other = []; first = blank; journal = new_journal 0 []; right = no_right }

-- the list begins with the part
abbrev pub Begins : List Story → List Story → Type 0
Begins part whole = (rest : List Story) × (whole ≡ part ++ rest)

-- after the run of the first history, runs ended with these histories, all of them legal, and the last history is of the run after them: each
-- run begins with the state after the one before it
abbrev pub AreRuns : Meaning → Story → List Story → Story → Type 0
AreRuns accepts last [] now = IsLegalStory accepts last × (now.base ≡ state_of last)
AreRuns accepts last (h ∷ hs) now = IsLegalStory accepts last × (h.base ≡ state_of last) × AreRuns accepts h hs now

-- the run of this journal has ended, and led to the run of this history: `before` are the last histories of the runs before the ended one,
-- and `past` those of the runs before the present one. `acts` says whether a session has the journal
pub record HasEnded (accepts : Meaning) (acts : Bool) (j : Journal) (before past : List Story) (now : Story) : Type 0 where
  -- the last history of the ended run
  pub last : Story
  -- those of the ended runs after it
  pub later : List Story
  pub all : past ≡ before ++ last ∷ later
  pub runs : AreRuns accepts last later now
  -- each history that the seat knew of is a prefix of the last one
  pub begins : (s : Story) → Contains j.known s → IsPrefixOf s last
  -- the session's answers are to its events of the last history, in order, and each front is a prefix of it
  pub part : acts ≡ true → IsJournalOf last j.id j

-- what a seat knows is true of the value under the lock
pub record Knows (accepts : Meaning) (now : Current) (v : SeatView) : Type 0 where
  -- the last histories of the ended runs, in order
  pub past : List Story
  pub runs : length past ≡ now.run
  -- the seat is of this run, or of an ended one
  pub run : v.run ≤ now.run
  -- a seat of this run knows the last history of each ended run
  pub all : v.run ≡ now.run → v.past ≡ past
  -- a seat that was told so is of an ended run
  pub over : v.over ≡ true → v.run ≡ now.run → ⊥
  -- what another seat knew is so too
  pub other : Begins v.other past
  -- the store has one committee
  pub committee : Contains v.journal.known v.first → v.first.committee ≡ now.history.committee
  -- it has the same limits in each run
  pub limits : Contains v.journal.known v.first → v.first.limits ≡ now.history.limits
  -- each history of this run that it knows of is a prefix of the history
  pub known : v.run ≡ now.run → (s : Story) → Contains v.journal.known s → IsPrefixOf s now.history
  -- the store made as many sessions as it knows of
  pub count : v.right.known ≤ now.made
  -- its session was made
  pub made : v.acts ≡ true → v.journal.id < now.made
  -- the answers of a session of this run are to the session's events of the history, in order; each front is a prefix of the history
  pub part : v.acts ≡ true → v.run ≡ now.run → IsJournalOf now.history v.journal.id v.journal
  -- a session of an ended run has no event in the history
  pub ended : v.acts ≡ true → (v.run ≡ now.run → ⊥) → events_of v.journal.id now.history.events ≡ []
  -- an ended run led to the present one
  pub gone : (v.run ≡ now.run → ⊥) → HasEnded accepts v.acts v.journal v.past past now.history

-- what a seat knows is of the run of the value under the lock, and true
pub record KnowsRun (accepts : Meaning) (now : Current) (v : SeatView) : Type 0 where
  pub same : v.run ≡ now.run
  pub knows : Knows accepts now v

-- the view v of the seat `by` fits the value under the lock; `owner` says which seat has which session, `holder` which one has the lock, and
-- `past` are the last histories of the ended runs
pub record FitsValue (accepts : Meaning) (owner : ℕ → ℕ) (holder : ℕ) (past : List Story) (now : Current) (by : ℕ) (v : SeatView) : Type 0 where
  -- only the holder has the lock, and it knows the value
  pub holds : (g : Current) → v.holds ≡ Some g → (by ≡ holder) × (g ≡ now)
  -- no other seat has its session
  pub owns : v.acts ≡ true → owner v.journal.id ≡ by
  -- what it knows is true
  pub knows : Knows accepts now v
  -- the ended runs are the same for all seats
  pub same : knows.past ≡ past

abbrev pub AllFit : Meaning → (ℕ → ℕ) → ℕ → List Story → Current → List SeatView → Type 0
AllFit accepts owner holder past now views = (by : ℕ) (v : SeatView) → get_elem? views by ≡ some v → FitsValue accepts owner holder past now by v

-- no seat has the lock
abbrev pub NoneHolds : List SeatView → Type 0
NoneHolds views = (by : ℕ) (v : SeatView) → get_elem? views by ≡ some v → v.holds ≡ None

-- the lock is free and the value at home, or the lock is taken and the value out
abbrev pub IsAt : Current → State Current SeatView → Type 0
IsAt now s =
    ((s.words ≡ 0 ∷ []) × (s.homes ≡ some now ∷ []) × NoneHolds s.views)
    ⊎ ((n : ℕ) × (s.words ≡ suc n ∷ []) × (s.homes ≡ none ∷ []))

-- the value is of the store that began with this history, in which runs ended with these last histories
pub record IsValueOf (accepts : Meaning) (first : Story) (past : List Story) (now : Current) : Type 0 where
  pub committee : first.committee ≡ now.history.committee
  pub limits : first.limits ≡ now.history.limits
  -- the history of run 0 begins with it
  pub begins : now.run ≡ 0 → IsPrefixOf first now.history
  -- a later run follows run 0, whose last history began with it
  pub follows : (now.run ≡ 0 → ⊥) → HasEnded accepts false (new_journal 0 (first ∷ [])) [] past now.history
  -- there is one for each ended run
  pub runs : length past ≡ now.run

-- there is one value under the lock, with one history, and one list of the last histories of all ended runs. The views of all seats fit both
abbrev pub IsOneHistory : Meaning → Story → State Current SeatView → Type 0
IsOneHistory accepts first s =
    (owner : ℕ → ℕ) × (holder : ℕ) × (now : Current) × (past : List Story) × IsValueOf accepts first past now × IsAt now s
    × AllFit accepts owner holder past now s.views

-- the journal after the history of its session's last look grew to this one: it has an answer for each event that is new
abbrev pub answered : Story → Story → Journal → Journal
answered before after j = record {
  id = j.id;
  answers = j.answers ++ map (λ e. record { event = e; front = after }) (drop (length before.events) after.events);
  known = j.known ++ after ∷ [];
}

-- the journal of a session that also knows of this history
abbrev pub knowing : Journal → Story → Journal
knowing j h = record { id = j.id; answers = j.answers; known = j.known ++ h ∷ [] }

-- an owner's seat, after it was cut in two: it is now for one session
abbrev pub for_session : SeatView → SeatView
for_session v = with_right v (record { one = v.right.owns; owns = false; made = 0; shares = 0; known = 0 })

-- the number of sessions made, as the holder of the lock sees it
abbrev pub made_in : Option Current → ℕ
made_in None = 0
made_in (Some now) = now.made

-- the other part, without the lock, is the owner's, through which one more session was made
abbrev pub after_session : SeatView → SeatView
after_session v = freed (with_right v (record { one = false; owns = v.right.owns; made = v.right.made + 1; shares = v.right.shares; known = made_in v.holds }))

-- an owner's seat, after another owner was made through it
abbrev pub after_share : SeatView → SeatView
after_share v = with_right v (record { one = v.right.one; owns = v.right.owns; made = v.right.made; shares = v.right.shares + 1; known = v.right.known })

-- the seat of this other owner
abbrev pub for_share : SeatView → SeatView
for_share v = freed (with_right v (record { one = false; owns = v.right.owns; made = 0; shares = 0; known = 0 }))

-- the seat, without the lock, that knows of the number of sessions made
abbrev pub counting : Current → SeatView → SeatView
counting now v = freed (with_right v (record { one = v.right.one; owns = v.right.owns; made = v.right.made; shares = v.right.shares; known = now.made }))

-- a new seat knows of the first history, and makes nothing
abbrev pub Comes : Step Current → Me Current SeatView → ℕ → Me Current SeatView → Type 0
Comes s me found after = after ≡ (with_right me.0 no_right, me.1)

-- if the lock was free, the seat has it now, with the value, and all that it knew is true of this value; otherwise nothing changed
abbrev pub Acquires : Meaning → Step Current → Me Current SeatView → ℕ → Me Current SeatView → Type 0
Acquires accepts s me found after =
    (found ≡ 0 → (now : Current) × (after ≡ (holder_of now me.0, (0, now) ∷ me.1)) × Knows accepts now me.0)
    × ((found ≡ 0 → ⊥) → after ≡ me)

-- the value after one more event
abbrev pub with_call : Current → Event → Current
with_call now e = record { run = now.run; history = with_event now.history e; made = now.made }

-- the seat gives back the value that it took
abbrev pub GivesSame : Me Current SeatView → Type 0
GivesSame me = (now : Current) → me.0.holds ≡ Some now → me.1 ≡ (0, now) ∷ []

-- it has a session, and gives back the value that it took with one more event of this session
abbrev pub GivesCall : Me Current SeatView → Type 0
GivesCall me = (me.0.acts ≡ true) × ((now : Current) → me.0.holds ≡ Some now → (e : Event) × (e.session ≡ me.0.journal.id) × (me.1 ≡ (0, with_call now e) ∷ []))

-- it may make one session, and gives back the value that it took with one more session
abbrev pub GivesSession : Me Current SeatView → Type 0
GivesSession me =
    (me.0.right.one ≡ true)
    × ((now : Current) → me.0.holds ≡ Some now → me.1 ≡ (0, record { run = now.run; history = now.history; made = now.made + 1 }) ∷ [])

-- it has a session, and gives back the value that it took, or that of the next run
abbrev pub GivesRun : Me Current SeatView → Type 0
GivesRun me = (me.0.acts ≡ true) × ((now : Current) → me.0.holds ≡ Some now → (given : Current) × ((given ≡ now) ⊎ (given ≡ next_run now)) × (me.1 ≡ (0, given) ∷ []))

-- the seat gives the value back as it was
abbrev pub Returns : Step Current → Me Current SeatView → ℕ → Me Current SeatView → Type 0
Returns s me found after = GivesSame me × (after ≡ (freed me.0, []))

-- the seat gives the value back after a call of its session
abbrev pub Releases : Step Current → Me Current SeatView → ℕ → Me Current SeatView → Type 0
Releases s me found after =
    GivesCall me
    × ((before called : Current) → me.0.holds ≡ Some before → me.1 ≡ (0, called) ∷ []
    → after ≡ (with_journal me.0 (answered before.history called.history me.0.journal), []))

-- a seat with the view v, which had the value g, has the session that was made, in the run of this value
abbrev pub IsMember : Meaning → Current → SeatView → Me Current SeatView → Type 0
IsMember accepts g v after = (known : Knows accepts g v) × (after ≡ (newcomer known.past g g.made, []))

-- the seat gives the value back with one more session, which it now has
abbrev pub Enrols : Meaning → Step Current → Me Current SeatView → ℕ → Me Current SeatView → Type 0
Enrols accepts s me found after = GivesSession me × ((before : Current) → me.0.holds ≡ Some before → IsMember accepts before me.0 after)

-- the seat without the lock, which also knows of this history
abbrev pub reader_of : Story → SeatView → SeatView
reader_of h v = with_journal v (knowing v.journal h)

-- the seat gives the value back as it was, and now knows of its history
abbrev pub Reads : Step Current → Me Current SeatView → ℕ → Me Current SeatView → Type 0
Reads s me found after = GivesSame me × ((now : Current) → me.0.holds ≡ Some now → after ≡ (reader_of now.history me.0, []))

-- the session of a seat with the view v, which had the value g, came to the run of the value d. If it ended its own run, the last history of
-- this run is that of g
abbrev pub IsJoined : Meaning → Current → Current → SeatView → Me Current SeatView → Type 0
IsJoined accepts g d v after =
    (known : Knows accepts d v) × (v.run ≡ g.run → known.past ≡ v.past ++ g.history ∷ []) × (after ≡ (newcomer known.past d v.journal.id, []))

-- the seat gives the value back, as it was or with the next run, and its session comes to the run of the value
abbrev pub Joins : Meaning → Step Current → Me Current SeatView → ℕ → Me Current SeatView → Type 0
Joins accepts s me found after =
    GivesRun me × ((before given : Current) → me.0.holds ≡ Some before → me.1 ≡ (0, given) ∷ [] → IsJoined accepts before given me.0 after)

-- the seat gives the value back as it was, and was told that its run has ended
abbrev pub Tells : Step Current → Me Current SeatView → ℕ → Me Current SeatView → Type 0
Tells s me found after = GivesSame me × (after ≡ (told me.0, []))

-- the seat gives the value back as it was, and now knows of its number of sessions
abbrev pub Counts : Step Current → Me Current SeatView → ℕ → Me Current SeatView → Type 0
Counts s me found after = GivesSame me × ((now : Current) → me.0.holds ≡ Some now → after ≡ (counting now me.0, []))

-- the seat's list of last histories and that of another one begin one list
abbrev pub Agrees : Step Current → Me Current SeatView → ℕ → Me Current SeatView → Type 0
Agrees s me found after = (past : List Story) × Begins me.0.past past × Begins me.0.other past

-- a seat with the value g may come to the run of the value d: it is another run than the seat's, or the next one after a legal history
abbrev pub MayJoin : Meaning → Current → Current → ℕ → Type 0
MayJoin accepts g d run = ((d ≡ g) × (run ≡ g.run → ⊥)) ⊎ ((d ≡ next_run g) × IsLegalStory accepts g.history)

-- the seat is one of this lock's table, which has one word and one slot
pub record IsSeatAt (lock seat : TableId) : Type 0 where
  pub same : seat ≡ lock
  pub words : lock.words ≡ 1
  pub slots : lock.slots ≡ 1

-- the seat has the value, and this is true of it
abbrev pub HasValue : Me Current SeatView → (Current → Type 0) → Type 0
HasValue me then = (g : Current) × (me.1 ≡ (0, g) ∷ []) × then g

-- the seat has the lock, with a value of which this is true
abbrev pub HasLock : SeatView → Me Current SeatView → (Current → Type 0) → Type 0
HasLock v me then = (now : Current) × (me ≡ (holder_of now v, (0, now) ∷ [])) × then now
