-- Looks at a store.
use Rattle.std.specs.Prelude.{ℕ, List}
use Rattle.nw_digest.specs.Order.{Slot}
use Rattle.nw_sig.specs.Signed.{Meaning}
use Rattle.nw_model.specs.declared.look.Look.{Look}
use Rattle.nw_model.specs.Look.{AreLooks}
use Rattle.nw_history.specs.Story.{Story, Origin, state_of}
use Rattle.nw_book.specs.Answered.{IsLookAfter}
use Rattle.nw_book.specs.Journal.{IsHistoryOf}

-- after some history of the store, the look has what the store has in the slot, and tells which references of the next round are satisfied
abbrev pub IsSeen : Meaning → Origin → Slot → Look → Type 0
IsSeen accepts origin slot look = (history : Story) × IsHistoryOf accepts origin history × IsLookAfter history slot look

-- after some history of the store, the looks are those at the round
abbrev pub AreSeen : Meaning → Origin → ℕ → List (ℕ × Look) → Type 0
AreSeen accepts origin round looks = (history : Story) × IsHistoryOf accepts origin history × AreLooks (state_of history) round looks
