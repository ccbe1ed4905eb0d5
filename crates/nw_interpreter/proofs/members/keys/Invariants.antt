use Rattle.std.proofs.Common.{◌≡◌, length}
use Rattle.nw_interpreter.proofs.members.keys.Given as goal

abbrev pub invariant-loop-number : goal.invariant-loop-number
invariant-loop-number l = length l.keys.items ≡ l.number
