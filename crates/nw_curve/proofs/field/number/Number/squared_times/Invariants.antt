use Rattle.std.proofs.Common.{◌≡◌, ◌^◌}
use Rattle.nw_curve.specs.Field.{power}
use Rattle.nw_curve.proofs.field.number.Number.squared_times.Given as goal

abbrev pub invariant-loop-done : goal.invariant-loop-done
invariant-loop-done l = l.square ≡ power l.self (2 ^ l._done)
