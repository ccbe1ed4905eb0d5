use Rattle.nw_dag.proofs.Words.{ap}
use Rattle.nw_model.specs.Step.{BoundedState}
use Rattle.nw_dag.proofs.Freezing.{frozen_opening}
use Rattle.nw_dag.proofs.Opening.{opening_at_rest}
use Rattle.nw_dag.proofs.dag.Dag.new.Goals as goal

pub invariant_of-result : goal.invariant_of-result
invariant_of-result c = rw (ap (λ (t : BoundedState). t.state) c.new.ensures, c.new-2.ensures.unmet, c.new-2.ensures.lacking, c.new-2.ensures.fresh, c.new-2.ensures.pending, c.new-3.ensures)
    (record { at_rest = opening_at_rest; frozen = frozen_opening _ })
