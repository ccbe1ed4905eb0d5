-- Why sessions do not settle.
use Rattle.std.specs.Prelude.{◌≡◌, ℕ, ◌==◌, ◌<◌, ◌≤◌, List, length, count_by, sum_by}
use mathlib.Core.Logic.{◌⊎◌}
use Rattle.nw_book.specs.Journal.{Journal}
use Rattle.nw_store.specs.Lock.{Guarded}
use Rattle.nw_store.specs.Settled.{ids_of}
use Rattle.nw_store.specs.declared.error.SettleFault.{SettleFault}
use Rattle.nw_store.specs.declared.error.SettleFault.TheVariants as faults

-- the number of times that the id is in the list
abbrev pub times : List ℕ → ℕ → ℕ
times ids id = count_by (λ x. x == id) ids

-- the id is stray: it is given more than once, or it is given and the store never made its session
abbrev pub IsStray : ℕ → List ℕ → ℕ → Type 0
IsStray made ids id = (1 < times ids id) ⊎ ((0 < times ids id) × (made ≤ id))

-- the least stray id
abbrev pub IsFirstStray : ℕ → List ℕ → ℕ → Type 0
IsFirstStray made ids id = IsStray made ids id × ((other : ℕ) → IsStray made ids other → id ≤ other)

-- why sessions do not settle: fewer are given than the store made; otherwise as many are given, their answers are as many as the
-- history's events, and the fault names the least stray id, with 0 in place of a call's number
abbrev pub IsFault : Guarded → List Journal → SettleFault → Type 0
IsFault held js (faults.Unfinished m given) = (m ≡ held.made) × (given ≡ length js) × (given < m)
IsFault held js (faults.Differs session number) =
    (length js ≡ held.made) × (sum_by (λ j. length j.answers) js ≡ length held.history.events) × IsFirstStray held.made (ids_of js) session × (number ≡ 0)
