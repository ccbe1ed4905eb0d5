-- Prefixes of histories.
use Rattle.std.specs.Prelude.{◌≡◌, Option, Some}
use mathlib.Core.List.{IsPrefix}
use Rattle.nw_model.specs.declared.event.Event.{Event}
use Rattle.nw_history.specs.Story.{Story}

-- the first history is a prefix of the second
pub record IsPrefixOf (s t : Story) : Type 0 where
  -- they have the same committee
  pub committee : s.committee ≡ t.committee
  -- they have the same limits
  pub limits : s.limits ≡ t.limits
  -- they have the same base
  pub base : s.base ≡ t.base
  -- the events of the second begin with those of the first
  pub events : IsPrefix s.events t.events

-- there are two events, with the same session, number and call
abbrev pub AreAlike : Option Event → Option Event → Type 0
AreAlike (Some e) (Some f) = (e.session ≡ f.session) × (e.number ≡ f.number) × (e.call ≡ f.call)
AreAlike one other = ⊥
