-- The value of digits to base 2^64.
use Rattle.std.specs.Prelude.{ℕ, ◌+◌, ◌*◌, ◌^◌}
use Rattle.nw_curve.specs.declared.field.limbs.Limbs.{Limbs}

-- the number with these four digits
abbrev pub value_of : Limbs → ℕ
value_of n = n.first + 2 ^ 64 * n.second + 2 ^ 128 * n.third + 2 ^ 192 * n.fourth
