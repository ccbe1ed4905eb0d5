use Rattle.nw_store.proofs.Kept.{session_renewed}
use Rattle.nw_store.proofs.notes.hear_locked.Goals as goal

pub invariant_of-session : goal.invariant_of-session
invariant_of-session g c = session_renewed _ _ _ _ _ c.session.invariant c.renew.ensures.begins c.renew.ensures.known
