use Rattle.nw_plain.proofs.Words.{sym, ◌∙◌, get_lookup, digests_total}
use Rattle.nw_plain.proofs.view.View.get.Goals as goal

pub returns-clause-block : goal.returns-clause-block
returns-clause-block c = rw (← c.self.view_is) (c.get.ensures.value ∙ sym (get_lookup digests_total _ _))
