use Rattle.std.proofs.Common.{◌+◌, arith}
use Rattle.nw_curve.specs.Weights.{value_of}
use Rattle.nw_curve.proofs.Digits.{sum_carried}
use Rattle.nw_curve.proofs.field.limbs.plus.Goals as goal

pub returns : goal.returns
returns c =
    let same = rw c.wrapped_carry.ensures at c.plus_small.ensures in
    sum_carried (value_of c.args.a.now + value_of c.args.b.now) (value_of c.plus_small.result) (value_of c.new.result) c.add_with_carry-fourth.result.1 same (omega arith)
