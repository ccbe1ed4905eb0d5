-- A point with Z 1 represents the same affine point.
use Rattle.std.proofs.Common.{◌≡◌, ℕ, ◌*◌, arith, lit<}
use Rattle.nw_curve.specs.Field.{prime as modulus, times, inverse as field_inverse}
use Rattle.nw_curve.specs.Completed.{normalized}
use Rattle.nw_curve.specs.declared.curve.point.Point.{Point}
use Rattle.nw_curve.proofs.Constants.{prime}
use Rattle.nw_curve.proofs.Congruence.{Congruent, equal, itself, chained, products, remainder}
use Rattle.nw_curve.proofs.AffineGroup.{below_prime, Affine, inverse_is}
use Rattle.nw_curve.proofs.Extended.{Represents, not_zero_small}

-- a coordinate times an inverse of Z
coordinate : (n c z i : ℕ) → Congruent prime n (c * z) → Congruent prime (i * z) 1 → Congruent prime (times n i) (c * 1)
unfolding modulus
coordinate n c z i h one =
    let swap : c * z * i ≡ c * (i * z) = omega arith in
    chained remainder (chained (products h itself) (chained (equal swap) (products itself one)))

pub normalized_represents : (p : Point) (a : Affine) → Represents p a → Represents (normalized p) a
unfolding normalized modulus
normalized_represents p a r =
    let i = field_inverse p.z in
    let one : Congruent prime (i * p.z) 1 = inverse_is p.z r.z_not_zero in
    record {
      x_below = below_prime (p.x * i);
      y_below = below_prime (p.y * i);
      z_below = lit< tt;
      t_below = below_prime (p.t * i);
      z_not_zero = not_zero_small 1 (lit< tt) (lit< tt);
      x = coordinate p.x a.x p.z i r.x one;
      y = coordinate p.y a.y p.z i r.y one;
      t = coordinate p.t (a.x * a.y) p.z i r.t one;
    }
