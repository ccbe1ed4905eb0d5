use Rattle.std.proofs.Common.{◌*◌, ◌^◌, ◌<◌, arith}
use Rattle.std.proofs.lemmas.Nat.{mul-lt}
use Rattle.nw_curve.specs.Weights.{value_of}
use Rattle.nw_curve.proofs.field.limbs.square.Goals as goal

pub overflow_add-eighth : goal.overflow_add-eighth
overflow_add-eighth c =
    let a = value_of c.args.a.now in
    let small : a < 2 ^ 256 = omega arith in
    let below : a * a < 2 ^ 512 = mul-lt a a (2 ^ 256) (2 ^ 256) small small in
    omega (arith, below)
