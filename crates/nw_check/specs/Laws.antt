-- Laws of the faults.
use Rattle.std.specs.Prelude.{◌≡◌, List}
use Rattle.nw_codec.specs.declared.block.Block.{Block}
use Rattle.nw_codec.specs.declared.certificate.Signature.{Signature}
use Rattle.nw_codec.specs.declared.certificate.Certificate.{Certificate}
use Rattle.nw_codec.specs.declared.vote.Vote.{Vote}
use Rattle.nw_committee.specs.declared.member.Member.{Member}
use Rattle.nw_sig.specs.Signed.{Meaning}
use Rattle.nw_check.specs.Fault.{IsBlockFault, IsCertFault}
use Rattle.nw_check.specs.Gathering.{Gathering, IsGatherFault}
use Rattle.nw_check.specs.declared.fault.BlockFault.{BlockFault}
use Rattle.nw_check.specs.declared.fault.CertFault.{CertFault}
use Rattle.nw_check.specs.declared.fault.GatherFault.{GatherFault}

-- two faults of one block are the same
abbrev pub BlocksHaveOneFault : Type 0
BlocksHaveOneFault =
    (accepts : Meaning) (members : List Member) (b : Block) (signature : Signature) (one other : BlockFault)
    → IsBlockFault accepts members b signature one → IsBlockFault accepts members b signature other → one ≡ other

-- two faults of one certificate are the same
abbrev pub CertificatesHaveOneFault : Type 0
CertificatesHaveOneFault =
    (accepts : Meaning) (members : List Member) (c : Certificate) (one other : CertFault)
    → IsCertFault accepts members c one → IsCertFault accepts members c other → one ≡ other

-- two faults of one vote are the same
abbrev pub VotesHaveOneFault : Type 0
VotesHaveOneFault = (accepts : Meaning) (g : Gathering) (v : Vote) (one other : GatherFault) → IsGatherFault accepts g v one → IsGatherFault accepts g v other → one ≡ other
