use Rattle.nw_decode.proofs.Words.{ℕ, ◌+◌, List, ◌++◌, ap, ◌∙◌, w16, to_be_bytes}
use Rattle.nw_decode.specs.Faults.{AtTransactionCount, AtSignature, at_transactions}
use Rattle.nw_decode.proofs.Fronts.{onward, later}
use Rattle.nw_decode.proofs.Fields.{exit}
use Rattle.nw_decode.proofs.Parts.{counts_transactions, front_of}
use Rattle.nw_decode.proofs.decode.block.read_transactions.Goals as goal

pub returns-in_err-count : goal.returns-in_err-count
returns-in_err-count c = exit _ _ _ _ c.from_residual.ensures.1 (c.in_err-count.ensures (AtTransactionCount c.args.size) _ (counts_transactions c.args.size))

pub returns-in_err-after : goal.returns-in_err-after
returns-in_err-after c =
    let count = c.in_ok-count.ensures (AtTransactionCount c.args.size) _ (counts_transactions c.args.size) in
    exit _ _ _ _ c.from_residual-in_err-after.ensures.1 (later (AtTransactionCount c.args.size) (at_transactions c.in_ok-count.count (c.args.size + 2)) _ _ _ count.2 c.in_err-after.ensures)

pub until-requires : goal.until-requires
until-requires c = front_of _ _ _ _ c.in_ok-after.ensures

pub returns : goal.returns
returns c =
    let n = c.in_ok-count.count in
    let count = c.in_ok-count.ensures (AtTransactionCount c.args.size) _ (counts_transactions c.args.size) in
    let next = at_transactions n (c.args.size + 2) in
    (record { low = count.1.low; bytes = count.1.bytes ∙ ap (λ (t : List ℕ). to_be_bytes w16 n ++ t) c.until.ensures }, onward (AtTransactionCount c.args.size) next AtSignature _ _ _ count.2 c.in_ok-after.ensures)
