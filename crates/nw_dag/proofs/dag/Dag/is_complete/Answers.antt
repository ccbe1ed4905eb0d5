use Rattle.nw_dag.proofs.Complete.{complete_ready, ready_complete}
use Rattle.nw_dag.proofs.dag.Dag.is_complete.Goals as goal

pub returns-clause-complete : goal.returns-clause-complete
returns-clause-complete c =
    let s = c.self.inside.held.state in
    let lacking = c.self.inside.waits.missing.lacking in
    let promoted = c.self.invariant.at_rest.coming_to_rest.promoted in
    rw (← c.self.view_is) (
      λ true. (ready_complete s lacking promoted (c.is_ready.ensures.sound true) c.args.digest.now).0 (c.is_ready.ensures.ready.0 true),
      λ whole. c.is_ready.ensures.ready.1 (complete_ready s lacking promoted c.args.digest.now whole),
    )
