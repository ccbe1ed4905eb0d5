use Rattle.std.proofs.Common.{◌-◌, ◌^◌}
use Rattle.nw_curve.specs.Field.{prime}
use Rattle.nw_curve.proofs.Powers.{power_step}
use Rattle.nw_curve.proofs.field.number.Number.root_power.Goals as goal

pub returns : goal.returns
unfolding prime
returns c =
    power_step c.args.self.now (2 ^ 250 - 1) 4 c.power_of_250_ones.result c.squared_times.result c.times.result c.power_of_250_ones.ensures c.squared_times.ensures c.times.ensures
