use Rattle.nw_dag.proofs.Words.{◌∙◌}
use Rattle.nw_dag.proofs.Written.{forgotten}
use Rattle.nw_dag.proofs.waits.Waits.add_parents.Goals as goal

pub returns-in-Err-clause-unchanged : goal.returns-in-Err-clause-unchanged
returns-in-Err-clause-unchanged c = (
  c.forget.ensures.unmet ∙ forgotten c.args.holder c.args.self.now.missing.unmet c.add_each.new.self.missing.unmet c.add_each.ensures.same_unmet c.requires.unmet,
  c.forget.ensures.lacking ∙ forgotten c.args.holder c.args.self.now.missing.lacking c.add_each.new.self.missing.lacking c.add_each.ensures.same_lacking c.requires.lacking,
)
