use Rattle.nw_dag.proofs.Words.{ap, ◌∙◌}
use Rattle.nw_dag.proofs.Freezing.{over_nothing}
use Rattle.nw_dag.proofs.frozen.as_one.Goals as goal

pub returns-clause-blocks : goal.returns-clause-blocks
returns-clause-blocks c =
    over_nothing c.in_ok-joined.field-0 c.new-one.result.blocks c.push.new.self.blocks (ap (λ j. j.blocks) c.new-one.ensures) c.in_ok-push.ensures.blocks ∙ c.in_ok-joined.ensures
