use Rattle.std.proofs.Common.{◌/◌}
use Rattle.nw_curve.specs.Curve.{base}
use Rattle.nw_curve.specs.Completed.{normalized, point_of}
use Rattle.nw_curve.specs.Table.{odd_multiple}
use Rattle.nw_curve.proofs.BaseTable.{normalized_z, sum_unless_zero}
use Rattle.nw_curve.proofs.curve.completed.CompletedPoint.plus_base_times.Goals as goal

pub returns-else-digit-eq0 : goal.returns-else-digit-eq0
returns-else-digit-eq0 c =
    let q = normalized (odd_multiple (c.args.digit / 2) base) in
    sum_unless_zero c.args.digit (point_of c.of_affine_sum.result) c.point.result (point_of c.args.self) q c.if-digit-eq0.false c.point.ensures
    (c.of_affine_sum.ensures q c.odd_multiple_of_base.ensures (normalized_z (odd_multiple (c.args.digit / 2) base)))
