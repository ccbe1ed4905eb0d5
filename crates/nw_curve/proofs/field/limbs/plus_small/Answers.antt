use Rattle.std.proofs.Common.{◌+◌, sym, arith}
use Rattle.nw_curve.specs.Weights.{value_of}
use Rattle.nw_curve.proofs.Digits.{carried}
use Rattle.nw_curve.proofs.field.limbs.plus_small.Goals as goal

pub returns : goal.returns
returns c =
    sym (carried (value_of c.args.limbs.now + c.args.more) (value_of c.new.result) c.add_with_carry-fourth.result.1 (omega arith))
