-- The curve -x^2 + y^2 = 1 + d x^2 y^2 modulo the prime: points in extended coordinates, and their sums (RFC 8032, 5.1.4).
use Rattle.std.specs.Prelude.{ℕ, zero, suc, ◌==◌, ◌/◌, ◌%◌, if◌then◌else◌}
use Rattle.nw_curve.specs.Field.{plus, minus, times, negative}
use Rattle.nw_curve.specs.declared.curve.point.Point.{Point}

-- the constant d, which is -121665 / 121666
unfoldable pub curve_d : ℕ
curve_d = 37095705934669439343138083508754565189542113879843219016388785533085940283555

-- twice a, modulo the prime
abbrev pub twice : ℕ → ℕ
twice a = plus a a

-- the neutral element: x is 0, and y is 1
abbrev pub identity : Point
identity = record { x = 0; y = 1; z = 1; t = 0 }

-- the base point B
unfoldable pub base : Point
base = record {
  x = 15112221349535400772501151409588531511454012693041857206046113283949847762202;
  y = 46316835694926478169428394003475163141307993866256225615783033603165251855960;
  z = 1;
  t = 46827403850823179245072216630277197565144205554125654976674165829533817101731;
}

-- the last four products of a sum or a doubling
abbrev pub finished : ℕ → ℕ → ℕ → ℕ → Point
finished e f g h = record { x = times e f; y = times g h; z = times f g; t = times e h }

-- the sum of two points
unfoldable pub added : Point → Point → Point
added p q =
    let a = times (minus p.y p.x) (minus q.y q.x) in
    let b = times (plus p.y p.x) (plus q.y q.x) in
    let c = times (times p.t (twice curve_d)) q.t in
    let d = times (twice p.z) q.z in
    let e = minus b a in
    let f = minus d c in
    let g = plus d c in
    let h = plus b a in
    finished e f g h

-- twice a point
unfoldable pub doubled : Point → Point
doubled p =
    let a = times p.x p.x in
    let b = times p.y p.y in
    let c = twice (times p.z p.z) in
    let h = plus a b in
    let s = plus p.x p.y in
    let e = minus h (times s s) in
    let g = minus a b in
    let f = plus c g in
    finished e f g h

-- the negative of a point: the same y, and -x
abbrev pub negated : Point → Point
negated p = record { x = negative p.x; y = p.y; z = p.z; t = negative p.t }

-- the point p times the lowest bits of n, as many as the first argument says, by double-and-add from the highest bit
unfoldable pub multiple : ℕ → ℕ → Point → Point
multiple zero n p = identity
multiple (suc bits) n p =
    let q = doubled (multiple bits (n / 2) p) in
    if n % 2 == 1 then added q p else q
