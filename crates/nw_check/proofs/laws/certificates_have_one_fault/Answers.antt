use Rattle.nw_check.proofs.OneFault.{certificates_have_one_fault}
use Rattle.nw_check.proofs.laws.certificates_have_one_fault.Goals as goal

pub returns : goal.returns
returns c = certificates_have_one_fault
