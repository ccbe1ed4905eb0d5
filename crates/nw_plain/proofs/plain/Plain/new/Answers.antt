use Rattle.nw_model.proofs.Kept.{kept_opening}
use Rattle.nw_plain.proofs.plain.Plain.new.Goals as goal

pub invariant_of-result-2 : goal.invariant_of-result-2
invariant_of-result-2 c = rw (c.new.ensures.empty, c.new-2.ensures.empty, c.new-4.ensures.empty) kept_opening
