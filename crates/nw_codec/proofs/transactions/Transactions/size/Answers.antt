use Rattle.nw_codec.proofs.Words.{◌≡◌, length, rules, ap, ◌∙◌}
use Rattle.nw_codec.specs.Fits.{transactions_size}
use Rattle.nw_codec.specs.Packed.{cut}
use Rattle.nw_codec.proofs.Sizes.{length-transactions}
use Rattle.nw_codec.proofs.transactions.Transactions.size.Goals as goal

pub returns-clause-size : goal.returns-clause-size
returns-clause-size c =
    let len : c.len.result ≡ length c.self.inside.text.items = search rules in
    len ∙ ap length c.self.invariant.bytes ∙ length-transactions (cut c.self.inside.count c.self.inside.text.items) ∙ ap transactions_size c.self.view_is
