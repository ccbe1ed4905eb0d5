use Rattle.nw_store.specs.Journal.{origin_of}
use Rattle.nw_store.specs.Lock.{parts_of_a_ledger}
use Rattle.test_stores.proofs.tests.scenes.played.Given as goal

-- the ledger of the opening
abbrev pub ghosts-play-L-Ledger : goal.ghosts-play-L-Ledger
ghosts-play-L-Ledger g a = record { name = a.opening.ledger; parts = parts_of_a_ledger }

-- the log of the opening
abbrev pub ghosts-play-L-LogName : goal.ghosts-play-L-LogName
ghosts-play-L-LogName g a = record { log = a.opening.log }

-- the origin of the book
abbrev pub ghosts-play-L-Home : goal.ghosts-play-L-Home
ghosts-play-L-Home g a = record { origin = origin_of a.book }
