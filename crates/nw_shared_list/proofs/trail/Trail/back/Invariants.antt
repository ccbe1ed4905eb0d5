use Rattle.std.proofs.Common.{◌≡◌, ◌-◌}
use Rattle.std.specs.Prelude.{slice_get}
use Rattle.std.specs.Option.{option_copied}
use Rattle.nw_shared_list.specs.Trail.{items_to}
use Rattle.nw_shared_list.proofs.trail.Trail.back.Given as goal

abbrev pub invariant-loop : goal.invariant-loop
invariant-loop g l = slice_get l.fn.self l.fn.places ≡ slice_get (items_to (option_copied l.node)) (l.fn.places - l.counter)
