use Rattle.nw_check.proofs.OneFault.{blocks_have_one_fault}
use Rattle.nw_check.proofs.laws.blocks_have_one_fault.Goals as goal

pub returns : goal.returns
returns c = blocks_have_one_fault
