use Rattle.nw_state.proofs.Words.{sym, ◌∙◌, len_sorted, digests_total}
use Rattle.nw_state.proofs.tables.StateTables.certificates.Goals as goal

pub returns-clause-count : goal.returns-clause-count
returns-clause-count c = rw (← c.self.view_is) (c.len.ensures.len ∙ sym (len_sorted digests_total _ c.self.invariant.certificates_ordered))

pub returns-clause-sound : goal.returns-clause-sound
returns-clause-sound c = rw (← c.self.view_is) c.self.invariant.kept.sound
