use Rattle.nw_check.proofs.Broken.{cert_fault-from_rule}
use Rattle.nw_check.proofs.check.check_cert_by.Goals as goal

pub returns-in-Some-clause-fault : goal.returns-in-Some-clause-fault
returns-in-Some-clause-fault g c =
    rw (← c.get.ensures) (cert_fault-from_rule g.S.Scheme.accepts c.get.result.now c.args.certificate c.in-Some.fault c.in-Some.ensures)
