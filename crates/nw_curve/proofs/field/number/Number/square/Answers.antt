use Rattle.nw_curve.specs.Weights.{value_of}
use Rattle.nw_curve.proofs.Digits.{times_is}
use Rattle.nw_curve.proofs.field.number.Number.square.Goals as goal

pub returns : goal.returns
returns c =
    let a = value_of c.self.inside.limbs in
    let x = c.args.self.now in
    times_is (value_of c.wrapped.result) _ a a x x c.wrapped.ensures c.square.ensures c.self.view_is c.self.view_is
