use Rattle.nw_history.specs.Story.{first_origin}
use Rattle.nw_store.specs.Lock.{parts_of_a_ledger}
use Rattle.test_no_memory_stores.proofs.tests.limits.faults_of.Given as goal

-- the ledger of the opening
abbrev pub ghosts-fault_of-L-Ledger : goal.ghosts-fault_of-L-Ledger
ghosts-fault_of-L-Ledger a = record { name = a.opening.ledger; parts = parts_of_a_ledger }

-- the log of the opening
abbrev pub ghosts-fault_of-L-LogName : goal.ghosts-fault_of-L-LogName
ghosts-fault_of-L-LogName a = record { log = a.opening.log }

-- the origin that a store would have
abbrev pub ghosts-fault_of-L-Home : goal.ghosts-fault_of-L-Home
ghosts-fault_of-L-Home a = record { origin = first_origin a.committee a.limits }
