use Rattle.nw_dag.proofs.Words.{rules}
use Rattle.nw_dag.specs.Lacking.{IsReady}
use Rattle.nw_dag.proofs.Retained.{retained}
use Rattle.nw_dag.proofs.completions.Completions.drop_stale.Goals as goal

pub returns-clause-fresh : goal.returns-clause-fresh
returns-clause-fresh c = retained _ (IsReady c.args.held.now.state c.args.missing.now.lacking) _ (λ x b g k. search rules) _ _ c.retain.ensures.filtered
