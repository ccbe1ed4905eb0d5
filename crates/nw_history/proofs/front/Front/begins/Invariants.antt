use Rattle.nw_history.proofs.Prefixes.{AlikeBelow}
use Rattle.nw_history.proofs.front.Front.begins.Given as goal

abbrev pub invariant-loop-index : goal.invariant-loop-index
invariant-loop-index g l = AlikeBelow l.self.events l.other.events l.index
