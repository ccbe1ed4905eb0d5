use Rattle.nw_model.proofs.Integrity.{reads_agree}
use Rattle.nw_model.proofs.laws.reads_agree.Goals as goal

pub returns : goal.returns
returns c = reads_agree
