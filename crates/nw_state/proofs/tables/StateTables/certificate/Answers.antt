use Rattle.nw_state.proofs.Words.{sym, ◌∙◌, get_lookup, digests_total}
use Rattle.nw_state.proofs.tables.StateTables.certificate.Goals as goal

pub returns-clause-value : goal.returns-clause-value
returns-clause-value c = rw (← c.self.view_is) (c.get.ensures.value ∙ sym (get_lookup digests_total _ _))

pub returns-clause-sound : goal.returns-clause-sound
returns-clause-sound c = rw (← c.self.view_is) c.self.invariant.kept.sound
