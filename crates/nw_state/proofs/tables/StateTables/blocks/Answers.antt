use Rattle.nw_state.proofs.Words.{sym, ◌∙◌, len_sorted, digests_total}
use Rattle.nw_state.proofs.tables.StateTables.blocks.Goals as goal

pub returns : goal.returns
returns c = rw (← c.self.view_is) (c.len.ensures.len ∙ sym (len_sorted digests_total _ c.self.invariant.blocks_ordered))
