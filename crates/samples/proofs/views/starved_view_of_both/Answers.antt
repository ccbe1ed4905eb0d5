use Rattle.std.proofs.Common.{arith}
use Rattle.std.specs.FinMap.{from_entries}
use Rattle.samples.proofs.Closed.{closed_both}
use Rattle.samples.proofs.views.starved_view_of_both.Goals as goal

pub new-requires-clause-closed : goal.new-requires-clause-closed
new-requires-clause-closed c =
    rw (c.in_ok-push-2.ensures.items, c.in_ok-push.ensures.items, c.new-generations.ensures.items, c.in_ok-frozen.ensures, c.in_ok-frozen-2.ensures)
    (closed_both 3 (from_entries c.in_ok-older.field-0) (from_entries c.in_ok-newer.field-0) c.args.floor (omega arith) c.in_ok-older.ensures c.in_ok-newer.ensures)
