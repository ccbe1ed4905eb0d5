-- Stories: histories with their committee, limits and base.
use Rattle.std.specs.Prelude.{List, [], ◌∷◌, ◌++◌}
use Rattle.nw_committee.specs.declared.member.Member.{Member}
use Rattle.nw_sig.specs.Signed.{Meaning}
use Rattle.nw_model.specs.State.{State, opening}
use Rattle.nw_model.specs.Step.{Bounds, BoundedState}
use Rattle.nw_model.specs.History.{Terms, IsLegal, replay}
use Rattle.nw_model.specs.declared.event.Event.{Event}
use Rattle.nw_history.specs.declared.limits.Limits.{Limits}

-- a history or a front, as contracts see it
pub record Story : Type 0 where
  -- the members
  pub committee : List Member
  -- the limits
  pub limits : Limits
  -- the state from which its calls are replayed
  pub base : State
  -- the events, in order
  pub events : List Event

-- a story without its events
pub record Origin : Type 0 where
  -- the members
  pub committee : List Member
  -- the limits
  pub limits : Limits
  -- the state from which calls are replayed
  pub base : State

-- the origin whose base is the opening state
abbrev pub first_origin : List Member → Limits → Origin
first_origin committee limits = record { committee = committee; limits = limits; base = opening }

-- the history with this origin and these events
abbrev pub story_of : Origin → List Event → Story
story_of o es = record { committee = o.committee; limits = o.limits; base = o.base; events = es }

-- the bounds for the step table
abbrev pub bounds_of : Limits → Bounds
bounds_of l = record { blocks = l.blocks; window = l.window }

-- the terms under which the history must be legal
abbrev pub terms_of : Story → Terms
terms_of s = record { committee = s.committee; bounds = bounds_of s.limits; events = s.limits.events; sessions = s.limits.sessions }

-- the history is legal under its committee and limits, and starts from its base
abbrev pub IsLegalStory : Meaning → Story → Type 0
IsLegalStory accepts s = IsLegal accepts (terms_of s) s.base s.events

-- the state after the history
abbrev pub state_of : Story → State
state_of s = replay (bounds_of s.limits) s.base s.events

-- the history without events whose base is the state after this one
abbrev pub reopened : Story → Story
reopened s = record { committee = s.committee; limits = s.limits; base = state_of s; events = [] }

-- the tables after the history
abbrev pub tables_of : Story → BoundedState
tables_of s = record { bounds = bounds_of s.limits; state = state_of s }

-- the history with one more event
abbrev pub with_event : Story → Event → Story
with_event s e = record { committee = s.committee; limits = s.limits; base = s.base; events = s.events ++ e ∷ [] }
