-- Numbers by binary digits, which may be above 1.
use Rattle.std.specs.Prelude.{ℕ, ◌+◌, ◌*◌, ◌==◌, if◌then◌else◌, List, [], ◌∷◌}

-- the number with these digits, lowest first
abbrev pub number_from_digits : List ℕ → ℕ
number_from_digits [] = 0
number_from_digits (digit ∷ digits) = digit + 2 * number_from_digits digits

-- the places from a digit of at most so many bits to the next one
abbrev pub digit_length : ℕ → ℕ → ℕ
digit_length bits digit = if digit == 0 then 1 else bits
