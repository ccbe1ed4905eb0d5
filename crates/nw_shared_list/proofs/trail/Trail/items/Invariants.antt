use Rattle.std.proofs.Common.{◌≡◌, ◌++◌}
use Rattle.std.specs.Option.{option_copied}
use Rattle.nw_shared_list.specs.Trail.{items_to}
use Rattle.nw_shared_list.proofs.trail.Trail.items.Given as goal

abbrev pub invariant-loop-next : goal.invariant-loop-next
invariant-loop-next g l = l.fn.self ≡ l.items.items ++ items_to (option_copied l.next)
