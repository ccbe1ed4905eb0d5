use Rattle.std.proofs.Common.{◌≡◌, map, take}
use Rattle.nw_interpreter.proofs.members.members.Given as goal

abbrev pub invariant-loop-number : goal.invariant-loop-number
invariant-loop-number l = map (λ m. m.weight) l.members.items ≡ take l.number l.weights
