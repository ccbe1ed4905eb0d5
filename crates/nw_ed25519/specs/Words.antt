-- Numbers of four bytes.
use Rattle.std.specs.Prelude.{ℕ, ◌+◌, ◌*◌, List, slice_index}

-- the number that four bytes from a place on encode, lowest first
abbrev pub word_at : List ℕ → ℕ → ℕ
word_at bytes place = slice_index bytes place + 256 * (slice_index bytes (place + 1) + 256 * (slice_index bytes (place + 2) + 256 * slice_index bytes (place + 3)))
