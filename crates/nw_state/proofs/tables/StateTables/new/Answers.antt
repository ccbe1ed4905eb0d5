use Rattle.nw_state.proofs.Words.{digest_cmp}
use Rattle.nw_model.proofs.Kept.{kept_opening}
use Rattle.nw_digest.proofs.Elements.{ordered_none}
use Rattle.nw_state.proofs.Opening.{nothing_listed, nothing_voted}
use Rattle.nw_state.proofs.tables.StateTables.new.Goals as goal

pub invariant_of-result-2 : goal.invariant_of-result-2
invariant_of-result-2 c = rw (c.new_in.ensures, c.new_in-2.ensures, c.new_in-3.ensures) (record { kept = kept_opening; listed = nothing_listed; voted = nothing_voted; blocks_ordered = ordered_none digest_cmp; certificates_ordered = ordered_none digest_cmp })
