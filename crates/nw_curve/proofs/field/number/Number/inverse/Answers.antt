use Rattle.std.proofs.Common.{◌-◌, ◌^◌}
use Rattle.nw_curve.specs.Field.{prime}
use Rattle.nw_curve.proofs.Powers.{power_first, power_step, power_join}
use Rattle.nw_curve.proofs.field.number.Number.inverse.Goals as goal

pub returns : goal.returns
unfolding prime
returns c =
    let a = c.args.self.now in
    let fifth = power_first a 4 c.squared_times.result c.times.result c.squared_times.ensures c.times.ensures in
    let eleventh = power_step a 5 2 c.times.result c.squared_times-2.result c.times-eleventh.result fifth c.squared_times-2.ensures c.times-eleventh.ensures in
    power_join a (2 ^ 250 - 1) 32 11 c.power_of_250_ones.result c.times-eleventh.result c.squared_times-3.result c.times-2.result c.power_of_250_ones.ensures eleventh c.squared_times-3.ensures c.times-2.ensures
