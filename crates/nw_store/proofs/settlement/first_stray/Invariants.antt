use Rattle.nw_store.proofs.Ordered.{NoneBelow}
use Rattle.nw_store.proofs.settlement.first_stray.Given as goal

abbrev pub invariant-loop-id : goal.invariant-loop-id
invariant-loop-id g l = NoneBelow l.made l.sessions l.id
