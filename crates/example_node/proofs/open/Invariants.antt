use Rattle.nw_history.specs.Story.{first_origin}
use Rattle.nw_store.specs.Lock.{parts_of_a_ledger}
use Rattle.example_node.proofs.open.Given as goal

-- the opening's ledger
abbrev pub ghosts-run-L-Ledger : goal.ghosts-run-L-Ledger
ghosts-run-L-Ledger g a = record { name = a.opening.ledger; parts = parts_of_a_ledger }

-- the opening's log
abbrev pub ghosts-run-L-LogName : goal.ghosts-run-L-LogName
ghosts-run-L-LogName g a = record { log = a.opening.log }

-- the origin of the store's history
abbrev pub ghosts-run-L-Home : goal.ghosts-run-L-Home
ghosts-run-L-Home g a = record { origin = first_origin a.committee a.limits }
