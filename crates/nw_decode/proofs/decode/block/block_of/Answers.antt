use Rattle.nw_decode.proofs.Words.{◌≡◌, ap, ◌∙◌, rules, sym}
use Rattle.nw_codec.specs.Packed.{cut}
use Rattle.nw_decode.proofs.OneText.{same_block}
use Rattle.nw_codec.proofs.Packed.{cut_text}
use Rattle.nw_decode.proofs.Parts.{parents_long, transactions_packed, parents_built}
use Rattle.nw_decode.proofs.decode.block.block_of.Goals as goal

pub parents_of-requires : goal.parents_of-requires
parents_of-requires c = parents_long _ _ _ _ _ _ c.requires.1

pub of_text-requires : goal.of_text-requires
of_text-requires c = transactions_packed _ _ _ _ _ _ c.requires.1

pub returns : goal.returns
returns c b parts =
    let round : c.unwrap.result ≡ c.args.parts.round = search rules in
    let parents = parents_built b _ c.in_ok-parents.parents parts.typed parts.parents_are c.in_ok-parents.ensures.0 c.in_ok-parents.ensures.1 in
    let transactions = c.in_ok-transactions.ensures ∙ ap (cut c.args.parts.transaction_count) parts.transactions_are ∙ cut_text c.args.parts.transaction_count b.transactions (sym parts.count_is) parts.fits.short_transactions in
    same_block (record { author = c.args.parts.author; round = c.unwrap.result; parents = c.in_ok-parents.parents; transactions = c.in_ok-transactions.transactions }) b parts.author_is (round ∙ parts.round_is) parents transactions
