-- Points as 32 bytes (RFC 8032, 5.1.2 and 5.1.3).
use Rattle.std.specs.Prelude.{ℕ, ◌+◌, ◌-◌, ◌/◌, ◌%◌, ◌^◌, ◌==◌, ◌&&◌, Bool, Option, Some, None, List, nat_lt, if◌then◌else◌}
use Rattle.std.specs.Bool.{beq}
use Rattle.std.specs.Hash.{le_bytes}
use Rattle.std.specs.Int.{bit_at}
use Rattle.nw_curve.specs.Bytes.{number_from_bytes}
use Rattle.nw_curve.specs.Field.{prime, plus, minus, times, negative, power, inverse}
use Rattle.nw_curve.specs.Curve.{curve_d}
use Rattle.nw_curve.specs.declared.curve.point.Point.{Point}

-- the number is odd
abbrev pub is_odd : ℕ → Bool
is_odd n = n % 2 == 1

-- a square root of -1: 2 to the power (p - 1) / 4, for the prime p
unfoldable pub root_of_minus_one : ℕ
root_of_minus_one = 19681161376707505956807079304988542015446066515923890162744021073123829784752

-- a square root of u / v. The candidate is u v^3 (u v^7)^((p - 5) / 8). If it is not a root, that times the root of -1 may be one. None if
-- neither is a root
unfoldable pub root : ℕ → ℕ → Option ℕ
root u v =
    let r = times (times u (power v 3)) (power (times u (power v 7)) ((prime - 5) / 8)) in
    let s = times v (times r r) in
    if s == u then Some r else (if s == negative u then Some (times r root_of_minus_one) else None)

-- x or -x: the odd one if the sign is set, and otherwise the even one; None if x is 0 and the sign is set
abbrev pub with_sign : Bool → Option ℕ → Option ℕ
with_sign sign None = None
with_sign sign (Some x) =
    if (x == 0) && sign then None else (if beq (is_odd x) sign then Some x else Some (negative x))

-- the x of the point with this y and sign, or None if there is none
unfoldable pub recovered : ℕ → Bool → Option ℕ
recovered y sign = let y2 = times y y in with_sign sign (root (minus y2 1) (plus (times curve_d y2) 1))

-- the point with these x and y, if there is an x
abbrev pub affine : ℕ → Option ℕ → Option Point
affine y None = None
affine y (Some x) = Some (record { x = x; y = y; z = 1; t = times x y })

-- the point that 32 bytes encode: 255 bits of y, which must be below the prime, and then the sign of x
unfoldable pub decoded : List ℕ → Option Point
decoded bytes =
    let n = number_from_bytes bytes in
    let y = n % 2 ^ 255 in
    if nat_lt y prime then affine y (recovered y (bit_at n 255 == 1)) else None

-- 255 bits of y, and then the lowest bit of x, for X and Y times a factor
abbrev pub scaled : Point → ℕ → List ℕ
scaled p i =
    let x = times p.x i in
    let y = times p.y i in
    le_bytes 32 (y + (if is_odd x then 2 ^ 255 else 0))

-- the encoding of a point: 255 bits of y, and then the lowest bit of x
unfoldable pub encoded : Point → List ℕ
encoded p = scaled p (inverse p.z)
