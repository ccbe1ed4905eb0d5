use Rattle.nw_curve.proofs.Powers.{power_first}
use Rattle.nw_curve.proofs.field.number.Number.cube.Goals as goal

pub returns : goal.returns
returns c = power_first c.args.self.now 2 c.squared_times.result c.times.result c.squared_times.ensures c.times.ensures
