-- Histories, and which of them are legal.
use Rattle.std.specs.Prelude.{◌≡◌, ◌==◌, ℕ, ◌+◌, ◌<◌, ◌≤◌, List, [], ◌∷◌, length, All, filter}
use Rattle.nw_committee.specs.declared.member.Member.{Member}
use Rattle.nw_sig.specs.Signed.{Meaning}
use Rattle.nw_model.specs.State.{State, opening}
use Rattle.nw_model.specs.Checks.{digest_of, IsWellFormed, IsValid}
use Rattle.nw_model.specs.Step.{Bounds, after, IsReply, HasNoList}
use Rattle.nw_model.specs.declared.call.Call.{Call}
use Rattle.nw_model.specs.declared.call.Call.TheVariants as call
use Rattle.nw_model.specs.declared.event.Event.{Event}

-- the state after the calls of these events
abbrev pub replay : Bounds → State → List Event → State
replay bounds s [] = s
replay bounds s (e ∷ es) = replay bounds (after bounds s e.call) es

-- each event has the reply of its call at its place (IsReply), and no reply is a list
abbrev pub AreReplies : Bounds → State → List Event → Type 0
AreReplies bounds s [] = Unit {0}
AreReplies bounds s (e ∷ es) = IsReply bounds s e.call e.reply × HasNoList e.reply × AreReplies bounds (after bounds s e.call) es

-- the events of one session, in order
abbrev pub events_of : ℕ → List Event → List Event
events_of session es = filter (λ e. e.session == session) es

-- the events are numbered n, n + 1, and so on
abbrev pub AreNumbered : ℕ → List Event → Type 0
AreNumbered n [] = Unit {0}
AreNumbered n (e ∷ es) = (e.number ≡ n) × AreNumbered (n + 1) es

-- a call is admitted if its block or certificate passes the checks. A block is well formed, and written under its own digest. A certificate
-- is valid
abbrev pub IsAdmitted : Meaning → List Member → Call → Type 0
IsAdmitted accepts members (call.Write d b) = (d ≡ digest_of b) × IsWellFormed accepts members b
IsAdmitted accepts members (call.Certify c) = IsValid accepts members c
IsAdmitted accepts members other = Unit {0}

-- the committee and the limits under which a history is legal
pub record Terms : Type 0 where
  -- the members of the committee
  pub committee : List Member
  -- the bounds of the store
  pub bounds : Bounds
  -- the largest number of events
  pub events : ℕ
  -- each session's number is below this
  pub sessions : ℕ

-- the state is a base: some events with admitted calls lead to it from the opening state
pub record IsBase (accepts : Meaning) (terms : Terms) (base : State) : Type 0 where
  -- these events
  pub earlier : List Event
  -- their replies are those of the step
  pub replies : AreReplies terms.bounds opening earlier
  -- their calls are admitted
  pub admitted : All (λ e. IsAdmitted accepts terms.committee e.call) earlier
  -- the base is the state after them
  pub left : base ≡ replay terms.bounds opening earlier

-- the history is legal
pub record IsLegal (accepts : Meaning) (terms : Terms) (base : State) (es : List Event) : Type 0 where
  -- it starts from a base
  pub based : IsBase accepts terms base
  -- each reply is that of the step at its place, with Ready in place of a list
  pub replies : AreReplies terms.bounds base es
  -- the events of each session are numbered 1, 2, .. in order
  pub numbered : (session : ℕ) → AreNumbered 1 (events_of session es)
  -- the number of each session is below the limit on sessions
  pub sessions : All (λ e. e.session < terms.sessions) es
  -- there are no more events than the limit on events
  pub short : length es ≤ terms.events
  -- each call is admitted
  pub admitted : All (λ e. IsAdmitted accepts terms.committee e.call) es
