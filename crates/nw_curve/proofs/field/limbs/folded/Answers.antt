use Rattle.std.proofs.Common.{◌+◌, ◌*◌, ◌/◌, ◌^◌, arith}
use Rattle.nw_curve.specs.Weights.{value_of}
use Rattle.nw_curve.proofs.Digits.{folds}
use Rattle.nw_curve.proofs.field.limbs.folded.Goals as goal

pub returns : goal.returns
returns c =
    folds (value_of c.args.limbs.now + 2 ^ 256 * c.args.fifth) (value_of c.new.result) (c.args.fifth * 2 + c.args.limbs.now.fourth / 2 ^ 63) (omega arith)
