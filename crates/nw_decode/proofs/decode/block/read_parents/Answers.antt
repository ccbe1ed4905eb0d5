use Rattle.nw_decode.proofs.Words.{◌+◌, ◌*◌, None, MatchResult-weaker}
use Rattle.nw_decode.specs.Faults.{AtParentCount, at_parents}
use Rattle.nw_decode.proofs.Fronts.{later}
use Rattle.nw_decode.proofs.Fields.{exit, both}
use Rattle.nw_decode.proofs.Items.{are_parents}
use Rattle.nw_decode.proofs.Parts.{counts_parents, parents_found}
use Rattle.nw_decode.proofs.decode.block.read_parents.Goals as goal

pub returns-in_err-count : goal.returns-in_err-count
returns-in_err-count c = exit _ _ _ _ c.from_residual.ensures.1 (c.in_err-count.ensures AtParentCount _ counts_parents)

pub returns : goal.returns
returns c =
    let n = c.in_ok-count.count in
    let size = 11 + 34 * n in
    let count = c.in_ok-count.ensures AtParentCount _ counts_parents in
    let leads = c.read_items.ensures.leads _ _ (are_parents size) in
    MatchResult-weaker c.read_items.result (both c.read_items.result _ _ _ c.read_items.ensures.items leads)
    (λ x found. parents_found _ _ _ _ n count.1 count.0 found.0 count.2 found.1)
    (λ e fault. later AtParentCount (at_parents n None size) _ _ e count.2 fault)
