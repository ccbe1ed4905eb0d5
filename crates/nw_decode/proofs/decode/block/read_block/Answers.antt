use Rattle.nw_decode.proofs.Words.{◌+◌, length, are_bytes}
use Rattle.nw_decode.specs.Faults.{AtVersion, AtParentCount, AtTransactionCount, AtSignature, AtEnd}
use Rattle.nw_decode.proofs.Fronts.{onward, later}
use Rattle.nw_decode.proofs.Fields.{exit}
use Rattle.nw_decode.proofs.Parts.{head_leads, signature_ends, signature_leads, block_lies}
use Rattle.nw_decode.proofs.WholeBlock.{read_block}
use Rattle.nw_decode.proofs.decode.block.read_block.Goals as goal

pub returns-in_err-author : goal.returns-in_err-author
returns-in_err-author c = exit _ _ _ _ c.from_residual.ensures.1 c.in_err-author.ensures

pub returns-in_err-parents : goal.returns-in_err-parents
returns-in_err-parents c =
    let head = head_leads _ _ _ _ c.in_ok-author.ensures in
    exit _ _ _ _ c.from_residual-in_err-parents.ensures.1 (later AtVersion AtParentCount _ _ _ head c.in_err-parents.ensures)

pub returns-in_err-transaction_count : goal.returns-in_err-transaction_count
returns-in_err-transaction_count c =
    let size = 11 + length c.in_ok-parents.parents.now in
    let head = head_leads _ _ _ _ c.in_ok-author.ensures in
    exit _ _ _ _ c.from_residual-in_err-transaction_count.ensures.1 (later AtVersion AtParentCount _ _ _ head (later AtParentCount (AtTransactionCount size) _ _ _ c.in_ok-parents.ensures.2 c.in_err-transaction_count.ensures))

pub returns-in_err-signature : goal.returns-in_err-signature
returns-in_err-signature c =
    let size = 11 + length c.in_ok-parents.parents.now in
    let head = head_leads _ _ _ _ c.in_ok-author.ensures in
    let fault = c.in_err-signature.ensures AtSignature signature_ends in
    exit _ _ _ _ c.from_residual-in_err-signature.ensures.1 (later AtVersion AtParentCount _ _ _ head (later AtParentCount (AtTransactionCount size) _ _ _ c.in_ok-parents.ensures.2 (later (AtTransactionCount size) AtSignature _ _ _ c.in_ok-transaction_count.ensures.1 fault)))

pub returns : goal.returns
returns c =
    let size = 11 + length c.in_ok-parents.parents.now in
    let each = are_bytes _ c.type_inv.text in
    let head = head_leads _ _ _ _ c.in_ok-author.ensures in
    let last = c.in_ok-signature.ensures AtSignature signature_ends in
    let end = onward (AtTransactionCount size) AtSignature AtEnd _ _ _ c.in_ok-transaction_count.ensures.1 (signature_leads AtSignature _ _ signature_ends last) in
    let whole = onward AtVersion AtParentCount AtEnd _ _ _ head (onward AtParentCount (AtTransactionCount size) AtEnd _ _ _ c.in_ok-parents.ensures.2 end) in
    block_lies _ _ _ _ _ _ _ _ _ _ c.in_ok-author.ensures c.in_ok-parents.ensures.1 c.in_ok-transaction_count.ensures.0 last (read_block _ _ each whole)
