-- The sizes of loads.
use Rattle.std.specs.Prelude.{◌≡◌, ℕ, ◌%◌, ◌≤◌}

-- the number of nodes is 1, 4, 7, 10, 13 or 16
abbrev pub IsNodeCount : ℕ → Type 0
IsNodeCount nodes = (nodes ≤ 16) × (nodes % 3 ≡ 1)

-- the number of rounds is 1 to 32
abbrev pub IsRoundCount : ℕ → Type 0
IsRoundCount rounds = (1 ≤ rounds) × (rounds ≤ 32)
