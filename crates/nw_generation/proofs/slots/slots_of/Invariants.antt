use Rattle.nw_generation.specs.Slots.{AreSlotsOf}
use Rattle.nw_generation.proofs.slots.slots_of.Given as goal

abbrev pub invariant-loop-entry : goal.invariant-loop-entry
invariant-loop-entry l = AreSlotsOf l.slots.items l.entries
