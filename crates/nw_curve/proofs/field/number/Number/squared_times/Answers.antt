use Rattle.nw_curve.proofs.Powers.{squared_once}
use Rattle.nw_curve.proofs.field.number.Number.squared_times.Goals as goal

pub loop-done-preserved : goal.loop-done-preserved
loop-done-preserved c =
    squared_once c.args.self.now c.loop-done._done c.loop-done.square _ c.loop-done.invariant c.square-square-in-loop-done.ensures
