use Rattle.nw_check.proofs.Broken.{block_fault-from_rule}
use Rattle.nw_check.proofs.check.check_block_by.Goals as goal

pub returns-in-Some-clause-fault : goal.returns-in-Some-clause-fault
returns-in-Some-clause-fault g c =
    rw (← c.get.ensures) (block_fault-from_rule g.S.Scheme.accepts c.get.result.now c.args.block c.args.signature c.in-Some.fault (c.in-Some.ensures g.S.Scheme.accepts c.args.signature))
