use Rattle.nw_model.proofs.Stable.{causal_lists_stay}
use Rattle.nw_model.proofs.laws.causal_lists_stay.Goals as goal

pub returns : goal.returns
returns c = causal_lists_stay
