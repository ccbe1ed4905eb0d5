use Rattle.nw_curve.specs.Weights.{value_of}
use Rattle.nw_curve.proofs.Digits.{times_is}
use Rattle.nw_curve.proofs.field.number.Number.times.Goals as goal

pub returns : goal.returns
returns c =
    times_is (value_of c.wrapped.result) _ (value_of c.self.inside.limbs) (value_of c.other.inside.limbs) c.args.self.now c.args.other.now c.wrapped.ensures c.product.ensures c.self.view_is c.other.view_is
