use Rattle.nw_store.specs.Journal.{origin_of}
use Rattle.nw_store.specs.Lock.{parts_of_a_ledger}
use Rattle.nw_play.proofs.script.play_next.Given as goal

-- the ledger that was opened
abbrev pub ghosts-play_store-L-Ledger : goal.ghosts-play_store-L-Ledger
ghosts-play_store-L-Ledger g a = record { name = a.opening.ledger; parts = parts_of_a_ledger }

-- the log that was opened
abbrev pub ghosts-play_store-L-LogName : goal.ghosts-play_store-L-LogName
ghosts-play_store-L-LogName g a = record { log = a.opening.log }

-- the origin of the book
abbrev pub ghosts-play_store-L-Home : goal.ghosts-play_store-L-Home
ghosts-play_store-L-Home g a = record { origin = origin_of a.start.book }
