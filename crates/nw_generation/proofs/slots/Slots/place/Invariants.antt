use Rattle.nw_generation.proofs.slots.Slots.place.Given as goal

abbrev pub decreases-loop-last : goal.decreases-loop-last
decreases-loop-last l = l.last
