-- The total is at most a hundred million.
use Rattle.std.proofs.Common.{arith}
use Rattle.nw_committee.proofs.Weights.{total-le}
use Rattle.nw_committee.proofs.committee.Committee.quorum.Goals as goal

pub overflow_mul-result : goal.overflow_mul-result
overflow_mul-result c = let most = total-le c.self.inside.members.items c.self.invariant.0 in omega arith
