use Rattle.nw_plain.proofs.Words.{sym, ◌∙◌, get_lookup, slots_total}
use Rattle.nw_plain.proofs.plain.Plain.first.Goals as goal

pub returns : goal.returns
returns c = rw (← c.self.view_is) (c.copied.ensures ∙ c.get.ensures.value ∙ sym (get_lookup slots_total _ _))
