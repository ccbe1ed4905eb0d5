use Rattle.nw_dag.proofs.Freezing.{frozen_above}
use Rattle.nw_dag.proofs.dag.Dag.compact.Goals as goal

pub invariant_of-self-2 : goal.invariant_of-self-2
invariant_of-self-2 c =
    rw (c.freeze.ensures.unmet, c.freeze.ensures.lacking, c.freeze.ensures.pending)
    (record {
      at_rest = c.self.invariant.at_rest;
      frozen = frozen_above c.self.inside.held.state c.self.inside.waits.missing.lacking c.freeze.new.waits.completions.fresh.items c.freeze.new.generations.blocks c.in_ok-self-inside.field-0.blocks c.freeze.ensures.frozen (rw c.floor.ensures at c.in_ok-self-inside.ensures.blocks);
    })
