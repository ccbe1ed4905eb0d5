-- A log: the seat that knows it, and the seats that know a prefix of it. A seat is a zero-sized value of the kit's `atomic_table`: who has it
-- takes steps on a table with it, and it has a view, which is what is known there.
use Rattle.std.specs.Prelude.{◌≡◌, ℕ, List, [], ◌∷◌, ◌++◌, Bool, true, false}
use mathlib.Core.Option.{Option, some, none}
use mathlib.Core.List.{IsPrefix}
use lib.ListN.{get_elem?}
use Rattle.atomic_table.specs.Table.{State, Step, Me}
use Rattle.atomic_table.specs.Seated.{TableId}
use Rattle.atomic_table.specs.declared.shared.Seat.{Seat}
use Rattle.nw_log.specs.declared.rule.Knowledge.{Knowledge}

-- the name of a log; no two logs have the same
abbrev pub LogId : Type 0
LogId = TableId

-- a name that no log has
abbrev pub no_log : LogId
no_log = record { words = 0; slots = 0; views_name = 0; atom = 0; block = 0; offset = 0; slot_names = [] }

module _ {E : Type 0} where
  -- what the owner knows: the whole log
  abbrev pub owner_knows : List E → Knowledge E
  owner_knows all = record { owns = true; all = all; knows = false; known = [] }

  -- what a known prefix says: that the log begins with these events
  abbrev pub prefix_knows : List E → Knowledge E
  prefix_knows known = record { owns = false; all = []; knows = true; known = known }

  -- no knowledge of the log
  abbrev pub knows_nothing : Knowledge E
  knows_nothing = record { owns = false; all = []; knows = false; known = [] }

  -- the knowledge v of the seat `by` fits the log: only the owner's seat, `seat`, knows the log. A known prefix is a prefix of it
  abbrev pub FitsLog : ℕ → List E → ℕ → Knowledge E → Type 0
  FitsLog seat log by v = (v.owns ≡ true → (by ≡ seat) × (v.all ≡ log)) × (v.knows ≡ true → IsPrefix v.known log)

  -- there is one log. At most one seat knows all of it, and it begins with each known prefix
  abbrev pub IsOneLog : State E (Knowledge E) → Type 0
  IsOneLog s = (seat : ℕ) × (log : List E) × ((by : ℕ) (v : Knowledge E) → get_elem? s.views by ≡ some v → FitsLog seat log by v)

  -- the whole log as a known prefix, if its owner makes it; otherwise nothing
  abbrev known_if : Bool → List E → Knowledge E
  known_if true all = prefix_knows all
  known_if false all = knows_nothing

  -- the known prefix that a seat can make
  abbrev pub known_of : Knowledge E → Knowledge E
  known_of v = known_if v.owns v.all

  -- what the owner knows when a known prefix is shown to it
  abbrev pub with_known : Knowledge E → Knowledge E → Knowledge E
  with_known v w = record { owns = v.owns; all = v.all; knows = w.knows; known = w.known }

  -- the log with the event that a step announces, if there is one, at its end
  abbrev with_event : List E → Option E → List E
  with_event all none = all
  with_event all (some e) = all ++ e ∷ []

  -- after the step, the owner's log has the announced event
  abbrev pub Appended : Step E → Me E (Knowledge E) → ℕ → Me E (Knowledge E) → Type 0
  Appended s me found after = after ≡ (owner_knows (with_event me.0.all s.said), me.1)

  -- after the step, the owner knows the log, and the known prefix that was shown to it is a prefix of the log
  abbrev pub Checked : Step E → Me E (Knowledge E) → ℕ → Me E (Knowledge E) → Type 0
  Checked s me found after = (after ≡ (owner_knows me.0.all, me.1)) × (me.0.knows ≡ true → IsPrefix me.0.known me.0.all)

-- the seat of the owner of this log
pub record IsOwnerOf {E : Type 0} (log : LogId) (seat : Seat E (Knowledge E)) : Type 0 where
  -- it is a seat of this log's table
  pub at_log : seat.table_id ≡ log
  -- the log's table has one word
  pub one_word : log.words ≡ 1
  -- it knows the whole log
  pub knows : seat.me ≡ (owner_knows seat.me.0.all, [])

-- a seat that knows a prefix of this log
pub record IsKnownPrefixOf {E : Type 0} (log : LogId) (seat : Seat E (Knowledge E)) : Type 0 where
  -- it is a seat of this log's table
  pub at_log : seat.table_id ≡ log
  -- it knows a prefix
  pub knows : seat.me ≡ (prefix_knows seat.me.0.known, [])
