-- The ranges of limits.
use Rattle.std.specs.Prelude.{ℕ, ◌≤◌}
use Rattle.nw_history.specs.declared.limits.Limits.{Limits}

-- the number is between 1 and this maximum
pub record IsUpTo (most n : ℕ) : Type 0 where
  -- it is at least 1
  pub positive : 1 ≤ n
  -- it does not exceed the maximum
  pub bounded : n ≤ most

-- the maximum number of events
abbrev pub most_events : ℕ
most_events = 65_536

-- the maximum number of sessions
abbrev pub most_sessions : ℕ
most_sessions = 256

-- each limit is in its range
pub record AreInRange (l : Limits) : Type 0 where
  -- the number of blocks
  pub blocks : IsUpTo 65_536 l.blocks
  -- the number of events
  pub events : IsUpTo most_events l.events
  -- the number of rounds
  pub window : IsUpTo 4_096 l.window
  -- the number of sessions
  pub sessions : IsUpTo most_sessions l.sessions
