use Rattle.std.proofs.Common.{◌≡◌, ◌+◌, ◌*◌, ◌^◌, ◌∙◌, sym, arith}
use Rattle.nw_curve.specs.Weights.{value_of}
use Rattle.nw_curve.proofs.Digits.{carried}
use Rattle.nw_curve.proofs.field.limbs.wrapped.Goals as goal

pub returns : goal.returns
returns c =
    let halves = carried (value_of c.args.low + 2 ^ 256 * value_of c.args.high) (38 * value_of c.args.high + value_of c.args.low) (value_of c.args.high) (omega arith) in
    let same : value_of c.new.result + 2 ^ 256 * c.multiply_add-first.result.1.fourth ≡ 38 * value_of c.args.high + value_of c.args.low = omega arith in
    rw same at c.folded.ensures ∙ sym halves
