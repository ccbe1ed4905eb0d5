use Rattle.std.proofs.Common.{ℕ, ◌-◌, ◌^◌, ◌∙◌, ap}
use Rattle.nw_curve.specs.Field.{power}
use Rattle.nw_curve.proofs.Powers.{power_join, ones_join}
use Rattle.nw_curve.proofs.field.power.append_ones.Goals as goal

pub returns : goal.returns
returns c a m first second =
    let n = c.args.n in
    power_join a (2 ^ m - 1) (2 ^ n) (2 ^ n - 1) c.args.first.now c.args.second.now c.squared_times.result c.times.result first second c.squared_times.ensures c.times.ensures
    ∙ ap (λ (k : ℕ). power a k) (ones_join m n)
