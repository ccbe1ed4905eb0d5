use Rattle.nw_curve.proofs.Powers.{power_step}
use Rattle.nw_curve.proofs.field.number.Number.seventh.Goals as goal

pub returns : goal.returns
returns c =
    power_step c.args.self.now 3 2 c.cube.result c.squared_times.result c.times.result c.cube.ensures c.squared_times.ensures c.times.ensures
