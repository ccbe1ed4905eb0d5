use Rattle.nw_decode.proofs.Fronts.{trailing}
use Rattle.nw_decode.proofs.Fields.{not_empty}
use Rattle.nw_decode.proofs.decode.fields.at_end.Goals as goal

pub returns-then-not-is_empty : goal.returns-then-not-is_empty
returns-then-not-is_empty c = trailing _ (not_empty _ _ c.if-not-is_empty.true c.is_empty.ensures)
