use Rattle.nw_history.specs.Story.{first_origin}
use Rattle.nw_store.specs.Lock.{parts_of_a_ledger}
use Rattle.nw_load.proofs.node.open_store.Given as goal

-- the ledger that was opened
abbrev pub ghosts-run_store-L-Ledger : goal.ghosts-run_store-L-Ledger
ghosts-run_store-L-Ledger g a = record { name = a.opening.ledger; parts = parts_of_a_ledger }

-- the log that was opened
abbrev pub ghosts-run_store-L-LogName : goal.ghosts-run_store-L-LogName
ghosts-run_store-L-LogName g a = record { log = a.opening.log }

-- the origin of the new store
abbrev pub ghosts-run_store-L-Home : goal.ghosts-run_store-L-Home
ghosts-run_store-L-Home g a = record { origin = first_origin a.committee a.limits }
