use Rattle.nw_curve.specs.Weights.{value_of}
use Rattle.nw_curve.proofs.Digits.{plus_is}
use Rattle.nw_curve.proofs.field.number.Number.plus.Goals as goal

pub returns : goal.returns
returns c =
    plus_is (value_of c.plus.result) (value_of c.self.inside.limbs) (value_of c.other.inside.limbs) c.args.self.now c.args.other.now c.plus.ensures c.self.view_is c.other.view_is
