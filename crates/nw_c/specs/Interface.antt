-- Which library it is.
use Rattle.std.specs.Prelude.{ℕ}

-- version 0.2.0
abbrev pub version : ℕ
version = 200

-- the number of the interface
abbrev pub interface : ℕ
interface = 7
