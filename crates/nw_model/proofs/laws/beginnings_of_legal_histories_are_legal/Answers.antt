use Rattle.nw_model.proofs.Beginnings.{beginnings_legal}
use Rattle.nw_model.proofs.laws.beginnings_of_legal_histories_are_legal.Goals as goal

pub returns : goal.returns
returns c = beginnings_legal
