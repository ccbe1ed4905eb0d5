use Rattle.nw_dag.specs.Lacking.{IsReady}
use Rattle.nw_dag.proofs.Wanting.{refuted}
use Rattle.nw_dag.proofs.Listed.{one_added, one_left}
use Rattle.nw_dag.proofs.waits.Waits.add_if_ready.Goals as goal

pub returns-else-is_ready-clause-added : goal.returns-else-is_ready-clause-added
returns-else-is_ready-clause-added c =
    let P = IsReady c.args.held.now.state c.args.self.now.missing.lacking in
    one_left P c.args.digest c.args.self.now.completions.fresh.items (refuted c.is_ready.result (P c.args.digest) c.is_ready.ensures.ready c.if-is_ready.false)

pub returns-then-is_ready-clause-added : goal.returns-then-is_ready-clause-added
returns-then-is_ready-clause-added c =
    one_added (IsReady c.args.held.now.state c.args.self.now.missing.lacking) c.args.digest c.args.self.now.completions.fresh.items c.add.new.self.fresh.items (c.is_ready.ensures.ready.0 c.if-is_ready.true) c.add.ensures.fresh
