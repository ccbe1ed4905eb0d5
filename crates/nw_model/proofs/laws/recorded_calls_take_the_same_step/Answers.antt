use Rattle.nw_model.proofs.RecordedCalls.{same_step}
use Rattle.nw_model.proofs.laws.recorded_calls_take_the_same_step.Goals as goal

pub returns : goal.returns
returns c = same_step
