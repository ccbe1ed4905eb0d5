-- The first rule that a block or a certificate breaks.
use Rattle.std.specs.Prelude.{◌≡◌, ◌≢◌, ◌<◌, List, [], All}
use Rattle.nw_codec.specs.Fits.{authors, signers}
use Rattle.nw_codec.specs.declared.block.Block.{Block}
use Rattle.nw_codec.specs.declared.certificate.Signature.{Signature}
use Rattle.nw_codec.specs.declared.certificate.Certificate.{Certificate}
use Rattle.nw_committee.specs.Committee.{ReachesQuorum}
use Rattle.nw_committee.specs.declared.member.Member.{Member}
use Rattle.nw_sig.specs.Signed.{Meaning, text_of_block}
use Rattle.nw_model.specs.Checks.{digest_of, IsMember, IsSignedBy, IsWellFormedWith, IsSealOf, IsValid}
use Rattle.nw_check.specs.Seals.{IsFirstBad}
use Rattle.nw_check.specs.declared.fault.BlockFault.{BlockFault}
use Rattle.nw_check.specs.declared.fault.BlockFault.TheVariants as block_fault
use Rattle.nw_check.specs.declared.fault.CertFault.{CertFault}
use Rattle.nw_check.specs.declared.fault.CertFault.TheVariants as cert_fault

-- the authors of the block and of its parents are members
abbrev pub HasMembers : List Member → Block → Type 0
HasMembers members b = IsMember members b.author × All (IsMember members) (authors b.parents)

-- the author and the parents' authors are members; in round 0 there are no parents; in later rounds the parents' authors reach the quorum
abbrev pub HasParents : List Member → Block → Type 0
HasParents members b = HasMembers members b × (b.round ≡ 0 → b.parents ≡ []) × (0 < b.round → ReachesQuorum members (authors b.parents))

-- the block breaks the rule of this fault, and none of the rules before it; `NoMemory` stands for no rule
abbrev pub BreaksRule : Meaning → List Member → Block → Signature → BlockFault → Type 0
BreaksRule accepts members b signature block_fault.Author = IsMember members b.author → ⊥
BreaksRule accepts members b signature block_fault.ParentAuthor = IsMember members b.author × (All (IsMember members) (authors b.parents) → ⊥)
BreaksRule accepts members b signature block_fault.GenesisParents = HasMembers members b × (b.round ≡ 0) × (b.parents ≢ [])
BreaksRule accepts members b signature block_fault.FewParents = HasMembers members b × (0 < b.round) × (ReachesQuorum members (authors b.parents) → ⊥)
BreaksRule accepts members b signature block_fault.Signature = HasParents members b × (IsSignedBy accepts members b.author (text_of_block (digest_of b)) signature → ⊥)
BreaksRule accepts members b signature block_fault.NoMemory = ⊥

-- the check of the block may fail with this fault: that of the first rule that the block breaks, or `NoMemory` if it is well formed
abbrev pub IsBlockFault : Meaning → List Member → Block → Signature → BlockFault → Type 0
IsBlockFault accepts members b signature block_fault.NoMemory = IsWellFormedWith accepts members b signature
IsBlockFault accepts members b signature fault = BreaksRule accepts members b signature fault

-- the author and the signers are members
abbrev pub HasSigners : List Member → Certificate → Type 0
HasSigners members c = IsMember members c.author × All (IsMember members) (signers c.votes)

-- the certificate breaks the rule of this fault, and none of the rules before it; `NoMemory` stands for no rule
abbrev pub BreaksCertRule : Meaning → List Member → Certificate → CertFault → Type 0
BreaksCertRule accepts members c cert_fault.Author = IsMember members c.author → ⊥
BreaksCertRule accepts members c cert_fault.Signer = IsMember members c.author × (All (IsMember members) (signers c.votes) → ⊥)
BreaksCertRule accepts members c cert_fault.FewVotes = HasSigners members c × (ReachesQuorum members (signers c.votes) → ⊥)
BreaksCertRule accepts members c (cert_fault.Signature signer) = HasSigners members c × ReachesQuorum members (signers c.votes) × IsFirstBad (IsSealOf accepts members c) c.votes signer
BreaksCertRule accepts members c cert_fault.NoMemory = ⊥

-- the check of the certificate may fail with this fault: that of the first rule that it breaks, or `NoMemory` if it is valid
abbrev pub IsCertFault : Meaning → List Member → Certificate → CertFault → Type 0
IsCertFault accepts members c cert_fault.NoMemory = IsValid accepts members c
IsCertFault accepts members c fault = BreaksCertRule accepts members c fault
