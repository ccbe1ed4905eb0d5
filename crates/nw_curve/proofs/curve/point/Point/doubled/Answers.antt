use Rattle.std.proofs.Common.{◌∙◌}
use Rattle.nw_curve.proofs.curve.point.Point.doubled.Goals as goal

pub returns : goal.returns
returns c = c.point.ensures ∙ c.of_twice.ensures c.args.self.now.t
