use Rattle.nw_check.proofs.OneFault.{votes_have_one_fault}
use Rattle.nw_check.proofs.laws.votes_have_one_fault.Goals as goal

pub returns : goal.returns
returns c = votes_have_one_fault
