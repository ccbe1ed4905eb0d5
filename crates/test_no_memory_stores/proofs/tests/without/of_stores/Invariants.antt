use Rattle.nw_store.specs.Journal.{origin_of}
use Rattle.nw_store.specs.Lock.{parts_of_a_ledger}
use Rattle.test_no_memory_stores.proofs.tests.without.of_stores.Given as goal

-- the ledger of the opening
abbrev pub ghosts-of_a_store-L-Ledger : goal.ghosts-of_a_store-L-Ledger
ghosts-of_a_store-L-Ledger g a = record { name = a.opening.ledger; parts = parts_of_a_ledger }

-- the log of the opening
abbrev pub ghosts-of_a_store-L-LogName : goal.ghosts-of_a_store-L-LogName
ghosts-of_a_store-L-LogName g a = record { log = a.opening.log }

-- the origin of the book
abbrev pub ghosts-of_a_store-L-Home : goal.ghosts-of_a_store-L-Home
ghosts-of_a_store-L-Home g a = record { origin = origin_of a.book }
