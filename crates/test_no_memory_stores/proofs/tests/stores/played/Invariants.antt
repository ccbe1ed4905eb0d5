use Rattle.nw_store.specs.Journal.{origin_of}
use Rattle.nw_store.specs.Lock.{parts_of_a_ledger}
use Rattle.test_no_memory_stores.proofs.tests.stores.played.Given as goal

-- the ledger of the opening
abbrev pub ghosts-play_over-L-Ledger : goal.ghosts-play_over-L-Ledger
ghosts-play_over-L-Ledger g a = record { name = a.opening.ledger; parts = parts_of_a_ledger }

-- the log of the opening
abbrev pub ghosts-play_over-L-LogName : goal.ghosts-play_over-L-LogName
ghosts-play_over-L-LogName g a = record { log = a.opening.log }

-- the origin of the book
abbrev pub ghosts-play_over-L-Home : goal.ghosts-play_over-L-Home
ghosts-play_over-L-Home g a = record { origin = origin_of a.book }
