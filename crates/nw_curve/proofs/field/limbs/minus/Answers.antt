use Rattle.std.proofs.Common.{arith}
use Rattle.std.specs.Int.{from_bool}
use Rattle.nw_curve.specs.Weights.{value_of}
use Rattle.nw_curve.proofs.Digits.{difference_borrowed}
use Rattle.nw_curve.proofs.field.limbs.minus.Goals as goal

pub returns : goal.returns
returns c =
    let same = rw c.wrapped_carry.ensures at c.minus_small.ensures in
    difference_borrowed (value_of c.minus_small.result) (value_of c.new.result) (value_of c.args.a.now) (value_of c.args.b.now) (from_bool c.borrowing_sub-fourth.result.1) same (omega arith)
