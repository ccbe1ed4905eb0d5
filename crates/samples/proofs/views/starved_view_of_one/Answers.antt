use Rattle.std.specs.FinMap.{from_entries}
use Rattle.samples.proofs.Closed.{closed_one}
use Rattle.samples.proofs.views.starved_view_of_one.Goals as goal

pub new-requires-clause-closed : goal.new-requires-clause-closed
new-requires-clause-closed c =
    rw (c.in_ok-push.ensures.items, c.new-generations.ensures.items, c.in_ok-frozen.ensures)
    (closed_one 1 (from_entries c.in_ok-older.field-0) c.args.floor c.in_ok-older.ensures)
