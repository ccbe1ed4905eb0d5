-- The names of a store, and the origin of its histories.
use Rattle.std.specs.Prelude.{ℕ, []}
use Rattle.nw_log.specs.Log.{LogId}
use Rattle.nw_history.specs.Story.{Origin, first_origin}
pub use Rattle.nw_book.specs.Journal.{origin_of}

-- the log and the ledger of an opening
pub record StoreNames : Type 0 where
  -- the identity of the log
  pub log : LogId
  -- the identity of the ledger
  pub ledger : ℕ

-- an origin that no history has, since its limits are out of range
abbrev pub placeholder_origin : Origin
placeholder_origin = first_origin [] (record { blocks = 0; events = 0; window = 0; sessions = 0 })
