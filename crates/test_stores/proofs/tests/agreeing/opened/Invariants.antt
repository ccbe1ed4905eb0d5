use Rattle.nw_store.specs.Journal.{origin_of}
use Rattle.nw_store.specs.Lock.{parts_of_a_ledger}
use Rattle.test_stores.proofs.tests.agreeing.opened.Given as goal

-- the ledger of the opening
abbrev pub ghosts-opened_in-L-Ledger : goal.ghosts-opened_in-L-Ledger
ghosts-opened_in-L-Ledger g a = record { name = a.opening.ledger; parts = parts_of_a_ledger }

-- the log of the opening
abbrev pub ghosts-opened_in-L-LogName : goal.ghosts-opened_in-L-LogName
ghosts-opened_in-L-LogName g a = record { log = a.opening.log }

-- the origin of the book
abbrev pub ghosts-opened_in-L-Home : goal.ghosts-opened_in-L-Home
ghosts-opened_in-L-Home g a = record { origin = origin_of a.book }
