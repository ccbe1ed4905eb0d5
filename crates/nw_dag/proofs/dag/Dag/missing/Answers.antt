use Rattle.nw_dag.proofs.Missing.{first_wanted}
use Rattle.nw_dag.proofs.dag.Dag.missing.Goals as goal

pub returns : goal.returns
returns c = rw (← c.self.view_is) (rw (c.new.ensures) (first_wanted c.self.inside.held.state c.self.inside.waits.missing.unmet c.args.most _ c.self.invariant.at_rest.coming_to_rest.standing c.in_ok-first_unmet.ensures))
