use Rattle.nw_codec.proofs.Words.{length, ap, sym, ◌∙◌}
use Rattle.nw_codec.proofs.Packed.{cut_length}
use Rattle.nw_codec.proofs.transactions.Transactions.len.Goals as goal

pub returns-clause-count : goal.returns-clause-count
returns-clause-count c = sym (cut_length c.self.inside.count c.self.inside.text.items) ∙ ap length c.self.view_is
