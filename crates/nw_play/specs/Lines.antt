-- The remaining lines of a script.
use Rattle.std.specs.Prelude.{ℕ, ◌+◌, List, Option, Some, None, length}
use denote.Ref.{Bor}

-- an upper bound on the number of remaining lines: the number of remaining bytes plus one, or 0 after the last line
abbrev pub lines_left : Option (Bor (List ℕ)) → ℕ
lines_left None = 0
lines_left (Some rest) = length rest.now + 1
