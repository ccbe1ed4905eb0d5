use Rattle.nw_store.proofs.Words.{subst}
use Rattle.nw_store.specs.Settled.{Settlement, AreAllComparable}
use Rattle.nw_store.proofs.Interleaved.{all_comparable}
use Rattle.nw_store.proofs.settlement.Settled.history.Goals as goal

pub returns-clause-comparable : goal.returns-clause-comparable
returns-clause-comparable g c = subst (λ (l : Settlement). AreAllComparable l.journals) c.self.view_is (all_comparable _ _ c.self.invariant.1)
