-- Gathering votes into a certificate.
use Rattle.std.specs.Prelude.{◌≡◌, ◌↔◌, Bool, IsTrue, []}
use Rattle.nw_codec.specs.Fits.{signers}
use Rattle.nw_committee.specs.Committee.{ReachesQuorum}
use Rattle.nw_sig.specs.Signed.{Meaning}
use Rattle.nw_check.specs.Gathering.{CountsVote, CanCount, IsGatherFault, certificate_of}
use Rattle.nw_check.specs.declared.fault.GatherFault.{GatherFault}
use Rattle.nw_check.specs.declared.message.Checked.TheVariants as checked
use Rattle.nw_c.specs.Plain.{digest_in}
use Rattle.nw_c.specs.declared.plain.CSubject.{CSubject}
use Rattle.nw_c.specs.declared.content.Content.{Content}
use Rattle.nw_c.specs.declared.content.Content.TheVariants as kind

-- it gathers votes for the block of this subject under the committee, and has none yet
abbrev pub IsNewGather : Content → CSubject → Content → Type 0
IsNewGather (kind.Committee members) s (kind.Gather g) =
    g ≡ record { digest = digest_in s.digest; round = s.round; author = s.author; committee = members; seals = [] }
IsNewGather committee s other = ⊥

-- the vote can be counted and is counted, and b says whether the counted votes reach the quorum
abbrev pub IsCountedIn : Meaning → Content → Content → Content → Bool → Type 0
IsCountedIn accepts (kind.Gather old) (kind.Checked (checked.Vote v)) (kind.Gather new) b =
    CanCount accepts old v × CountsVote old v new × (IsTrue b ↔ ReachesQuorum new.committee (signers new.seals))
IsCountedIn accepts old vote new b = ⊥

-- the vote is not counted for this reason
abbrev pub IsNotCounted : Meaning → Content → Content → GatherFault → Type 0
IsNotCounted accepts (kind.Gather g) (kind.Checked (checked.Vote v)) why = IsGatherFault accepts g v why
IsNotCounted accepts gather vote why = ⊥

-- the counted votes reach the quorum, and the content is their certificate, checked under the committee
abbrev pub IsCertificateOf : Content → Content → Type 0
IsCertificateOf (kind.Gather g) (kind.Checked (checked.Cert c)) =
    ReachesQuorum g.committee (signers g.seals) × (c ≡ record { certificate = certificate_of g; committee = g.committee })
IsCertificateOf gather other = ⊥

-- the counted votes do not reach the quorum
abbrev pub HasFewVotes : Content → Type 0
HasFewVotes (kind.Gather g) = ReachesQuorum g.committee (signers g.seals) → ⊥
HasFewVotes other = ⊥
