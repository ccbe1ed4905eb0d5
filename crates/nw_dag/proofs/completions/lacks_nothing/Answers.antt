use Rattle.nw_dag.proofs.Wanting.{lacks_zero, lacks_some}
use Rattle.nw_dag.proofs.completions.lacks_nothing.Goals as goal

pub returns-clause-nothing : goal.returns-clause-nothing
returns-clause-nothing c = lacks_zero c.args.missing.now.lacking c.args.holder c.lacks.result c.lacks.ensures

pub returns-clause-something : goal.returns-clause-something
returns-clause-something c = lacks_some c.args.missing.now.lacking c.args.holder c.lacks.result c.lacks.ensures
