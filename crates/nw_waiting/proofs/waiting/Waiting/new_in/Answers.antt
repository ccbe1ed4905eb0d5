use Rattle.nw_waiting.proofs.Changes.{nothing}
use Rattle.nw_waiting.proofs.waiting.Waiting.new_in.Goals as goal

pub invariant_of-result : goal.invariant_of-result
invariant_of-result g c = nothing (λ v. v.items) (λ v. v.items) c.new.result.entries c.new-2.result.entries c.new.ensures.empty c.new-2.ensures.empty c.new.ensures.ordered
