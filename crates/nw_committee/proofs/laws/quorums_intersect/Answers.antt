use Rattle.nw_committee.proofs.Quorums.{quorums_intersect}
use Rattle.nw_committee.proofs.laws.quorums_intersect.Goals as goal

pub returns : goal.returns
returns c = quorums_intersect
