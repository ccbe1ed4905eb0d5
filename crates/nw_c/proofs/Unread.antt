-- Sessions that do not settle because a history could not be read.
use Rattle.std.proofs.Common.{List, [], ◌∷◌}
use Rattle.nw_sig.specs.Signed.{Meaning}
use Rattle.nw_shared_store.specs.Session.{IsUnseen, SessionView}
use Rattle.nw_shared_store.specs.Settlement.{AreUnsettled}
use Rattle.nw_shared_store.specs.declared.error.Refusal.{Refusal}
use Rattle.nw_shared_store.specs.declared.settlement.SettleFault.TheVariants as faults

pub unread : (accepts : Meaning) (old new : List SessionView) (why : Refusal) → AreUnsettled accepts old new (faults.Refused why) → IsUnseen why
unread accepts [] new why apart = apart
unread accepts (s ∷ ss) [] why apart = apart
unread accepts (s ∷ ss) (t ∷ ts) why apart = apart
