use Rattle.std.proofs.Common.{subst}
use Rattle.nw_curve.proofs.Represented.{encoded_multiples}
use Rattle.nw_curve.proofs.Decoding.{coordinates, PointIfAny, decoded_point}
use Rattle.nw_curve.proofs.curve.laws.multiples_add.Goals as goal

pub returns : goal.returns
returns c = λ bytes p i j k m n d hm hn h.
    let point = subst PointIfAny d (decoded_point bytes) in
    encoded_multiples i j k m n p (coordinates p) point.0 point.1 hm hn h
