use Rattle.std.proofs.Common.{◌+◌, arith}
use Rattle.std.specs.Int.{from_bool}
use Rattle.nw_curve.specs.Weights.{value_of}
use Rattle.nw_curve.proofs.Digits.{carried}
use Rattle.nw_curve.proofs.field.limbs.minus_small.Goals as goal

pub returns : goal.returns
returns c =
    carried (value_of c.new.result + c.args.less) (value_of c.args.limbs.now) (from_bool c.borrowing_sub-fourth.result.1) (omega arith)
