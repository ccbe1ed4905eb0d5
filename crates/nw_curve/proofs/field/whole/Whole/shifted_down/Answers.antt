use Rattle.std.proofs.Common.{ℕ, ◌-◌, ◌/◌, ◌^◌, ◌∙◌, ap, arith, pow_pos, div-le_self}
use Rattle.nw_curve.proofs.Shifts.{shifted_fits, shifted_is, powers_to_128}
use Rattle.nw_curve.proofs.field.whole.Whole.shifted_down.Goals as goal

pub overflow_add-result : goal.overflow_add-result
overflow_add-result c =
    let fits = shifted_fits c.self.inside.low c.self.inside.high (2 ^ c.args.places) (2 ^ (128 - c.args.places)) (2 ^ 128) (pow_pos c.args.places) (powers_to_128 c.args.places c.requires.few) c.self.invariant.0 in
    omega (arith, fits)

pub invariant_of-result : goal.invariant_of-result
invariant_of-result c =
    let fits = shifted_fits c.self.inside.low c.self.inside.high (2 ^ c.args.places) (2 ^ (128 - c.args.places)) (2 ^ 128) (pow_pos c.args.places) (powers_to_128 c.args.places c.requires.few) c.self.invariant.0 in
    (fits, omega (arith, div-le_self c.self.inside.high (2 ^ c.args.places), c.self.invariant.1))

pub returns : goal.returns
returns c =
    shifted_is c.self.inside.low c.self.inside.high (2 ^ c.args.places) (2 ^ (128 - c.args.places)) (2 ^ 128) (pow_pos c.args.places) (powers_to_128 c.args.places c.requires.few) c.self.invariant.0
    ∙ ap (λ (n : ℕ). n / 2 ^ c.args.places) c.self.view_is
