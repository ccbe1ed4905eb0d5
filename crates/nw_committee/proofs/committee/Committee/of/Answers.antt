-- The total is at most a hundred million.
use Rattle.std.proofs.Common.{arith}
use Rattle.nw_committee.proofs.Weights.{total-le}
use Rattle.nw_committee.proofs.committee.Committee.of.Goals as goal

pub total_weight-total_weight-requires : goal.total_weight-total_weight-requires
total_weight-total_weight-requires c = rw c.deref.ensures.value (let most = total-le c.args.members.items c.requires in omega arith)
