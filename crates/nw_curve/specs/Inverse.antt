-- Inverses modulo the prime.
use Rattle.std.specs.Prelude.{◌≡◌, ℕ}
use Rattle.nw_curve.specs.Field.{times}

-- the second number is an inverse of the first
abbrev pub IsInverse : ℕ → ℕ → Type 0
IsInverse a i = times a i ≡ 1

-- some number is an inverse of this one
abbrev pub HasInverse : ℕ → Type 0
HasInverse a = (i : ℕ) × IsInverse a i
