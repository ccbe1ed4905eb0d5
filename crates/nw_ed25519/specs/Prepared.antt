-- Keys that are prepared for verifications.
use Rattle.std.specs.Prelude.{ℕ, Option, Some, None, List}
use Rattle.nw_curve.specs.Curve.{negated}
use Rattle.nw_curve.specs.declared.curve.point.Point.{Point}
use Rattle.nw_curve.specs.declared.curve.completed.AffineAddend.{AffineAddend}
use Rattle.nw_ed25519.specs.Comb.{rows}
use Rattle.nw_ed25519.specs.declared.comb.Comb.{Comb}

-- the entries of the comb of -A, if the key is a point A
abbrev pub key_rows : Option Point → Option (List AffineAddend)
key_rows None = None
key_rows (Some p) = Some (rows 1 16 (negated p))

-- the entries of a comb, if there is one
abbrev pub entries_of : Option Comb → Option (List AffineAddend)
entries_of None = None
entries_of (Some comb) = Some comb.entries.items

-- the bits of a digit: 4 if there is no comb
abbrev pub bits_of : Option Comb → ℕ
bits_of None = 4
bits_of (Some comb) = comb.bits
