-- Points before the last four products of a sum or a doubling.
use Rattle.nw_curve.specs.Field.{plus, minus, times, inverse}
use Rattle.nw_curve.specs.Curve.{curve_d, twice, finished}
use Rattle.nw_curve.specs.declared.curve.point.Point.{Point}
use Rattle.nw_curve.specs.declared.curve.completed.CompletedPoint.{CompletedPoint}
use Rattle.nw_curve.specs.declared.curve.completed.Addend.{Addend}
use Rattle.nw_curve.specs.declared.curve.completed.AffineAddend.{AffineAddend}

-- the point in extended coordinates
abbrev pub point_of : CompletedPoint → Point
point_of n = finished n.e n.f n.g n.h

-- the point p, prepared for sums
unfoldable pub prepared : Point → Addend
prepared p = record {
  difference = minus p.y p.x;
  sum = plus p.y p.x;
  twice_z = twice p.z;
  twice_d_t = times (twice curve_d) p.t;
}

-- the point p, whose Z is 1, prepared for sums
unfoldable pub affine_prepared : Point → AffineAddend
affine_prepared p = record {
  difference = minus p.y p.x;
  sum = plus p.y p.x;
  twice_d_t = times (twice curve_d) p.t;
}

-- the same point, with Z 1
unfoldable pub normalized : Point → Point
normalized p =
    let i = inverse p.z in
    record { x = times p.x i; y = times p.y i; z = 1; t = times p.t i }
