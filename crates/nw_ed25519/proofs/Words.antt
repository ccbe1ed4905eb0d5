-- The words of other crates that the proofs of this crate share.
pub use Rattle.nw_codec.specs.Same.{same_bytes}
pub use Rattle.nw_curve.proofs.AffineGroup.{Affine, IsOnCurve, times_valid}
pub use Rattle.nw_curve.proofs.Decoding.{affine_base, base_valid, base_represents, coordinates, PointIfAny, decoded_point}
pub use Rattle.nw_curve.proofs.Extended.{Represents, added_represents}
pub use Rattle.nw_curve.proofs.Inverses.{not_divided-has_inverse}
pub use Rattle.nw_curve.proofs.Negatives.{negative_of, negative_valid, negated_represents}
pub use Rattle.nw_curve.proofs.Tables.{combination, combination_of_zeros}
pub use Rattle.nw_curve.specs.Bytes.{number_from_bytes}
pub use Rattle.nw_curve.specs.Coding.{encoded, decoded}
pub use Rattle.nw_curve.specs.Completed.{normalized, point_of}
pub use Rattle.nw_curve.specs.Curve.{identity, doubled, base, added, negated}
pub use Rattle.nw_curve.specs.declared.curve.completed.AffineAddend.{AffineAddend}
pub use Rattle.nw_curve.specs.declared.curve.point.Point.{Point}
pub use Rattle.std.proofs.Common.{◌≡◌, ℕ, zero, suc, ◌+◌, ◌*◌, ◌/◌, ◌%◌, ◌^◌, ◌<◌, refl, sym, ◌∙◌, ap, subst, arith, List, Some, Option, None, ◌-◌, ◌≤◌, [], ◌∷◌, ◌++◌, length, get_or, le_refl, lit<, ◌≢◌, drop, drop-cons, get_or-set_other, Bool, true, false, rules, vec_len}
pub use Rattle.std.proofs.Math.Decide.{dec_le}
pub use Rattle.std.proofs.Math.Nat.{div-div-eq-div-mul, pow-suc, mod-eq_of_lt, div-add-mod, add-mul-mod_self_right}
pub use Rattle.std.proofs.lemmas.List.{length-replicate}
pub use Rattle.std.proofs.lemmas.Nat.{pow-add}
pub use Rattle.std.specs.Prelude.{take, nat_lt}
