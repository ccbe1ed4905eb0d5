use Rattle.std.proofs.Common.{◌≡◌, length}
use Rattle.samples.proofs.checked.committee.Given as goal

abbrev pub invariant-loop-member : goal.invariant-loop-member
invariant-loop-member l = length l.keys.items ≡ l.member
