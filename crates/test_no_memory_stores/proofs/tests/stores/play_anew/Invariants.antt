use Rattle.nw_history.specs.Story.{first_origin}
use Rattle.nw_store.specs.Lock.{parts_of_a_ledger}
use Rattle.test_no_memory_stores.proofs.tests.stores.play_anew.Given as goal

-- the ledger of the opening
abbrev pub ghosts-play_new-L-Ledger : goal.ghosts-play_new-L-Ledger
ghosts-play_new-L-Ledger g a = record { name = a.opening.ledger; parts = parts_of_a_ledger }

-- the log of the opening
abbrev pub ghosts-play_new-L-LogName : goal.ghosts-play_new-L-LogName
ghosts-play_new-L-LogName g a = record { log = a.opening.log }

-- the origin of the store
abbrev pub ghosts-play_new-L-Home : goal.ghosts-play_new-L-Home
ghosts-play_new-L-Home g a = record { origin = first_origin a.committee a.limits }
