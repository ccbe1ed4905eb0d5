use Rattle.nw_committee.proofs.Quorums.{equal_members_have_the_classic_quorum}
use Rattle.nw_committee.proofs.laws.equal_members_have_the_classic_quorum.Goals as goal

pub returns : goal.returns
returns c = equal_members_have_the_classic_quorum
