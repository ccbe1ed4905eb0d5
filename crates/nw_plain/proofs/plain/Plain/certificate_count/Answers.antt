use Rattle.nw_plain.proofs.Words.{sym, ◌∙◌, len_sorted, digests_total}
use Rattle.nw_plain.proofs.plain.Plain.certificate_count.Goals as goal

pub returns : goal.returns
returns c = rw (← c.self.view_is) (c.len.ensures.len ∙ sym (len_sorted digests_total _ c.len.ensures.ordered))
