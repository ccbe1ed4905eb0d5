-- Well-formed blocks and valid certificates, under a committee and the meaning of a signature scheme.
use Rattle.std.specs.Prelude.{◌≡◌, ℕ, ◌<◌, List, [], Some, All, length, true, slice_get}
use Rattle.sha2.specs.Sha256.{sha256}
use Rattle.nw_digest.specs.declared.digest.Digest.{Digest}
use Rattle.nw_codec.specs.Fits.{Fits, CertificateFits, authors, signers}
use Rattle.nw_codec.specs.Grammar.{body}
use Rattle.nw_codec.specs.Subject.{certificate_subject}
use Rattle.nw_codec.specs.Typed.{IsSignature}
use Rattle.nw_codec.specs.declared.block.Block.{Block}
use Rattle.nw_codec.specs.declared.certificate.Signature.{Signature}
use Rattle.nw_codec.specs.declared.certificate.Seal.{Seal}
use Rattle.nw_codec.specs.declared.certificate.Certificate.{Certificate}
use Rattle.nw_committee.specs.Committee.{ReachesQuorum}
use Rattle.nw_committee.specs.declared.member.Member.{Member}
use Rattle.nw_sig.specs.Signed.{Meaning, text_of_block, text_of_vote}

-- the digest of a block: SHA-256 of its encoded body
abbrev pub digest_of : Block → Digest
digest_of b = record { 0 = sha256 (body b) }

-- some member has this number
abbrev pub IsMember : List Member → ℕ → Type 0
IsMember members number = number < length members

-- the signature has 64 bytes, and the scheme accepts it for the text under the key of the member with this number
abbrev pub IsSignedBy : Meaning → List Member → ℕ → List ℕ → Signature → Type 0
IsSignedBy accepts members number text signature = IsSignature signature × (m : Member) × (slice_get members number ≡ Some m) × (accepts m.key text signature ≡ true)

-- the block is well formed with this signature
pub record IsWellFormedWith (accepts : Meaning) (members : List Member) (b : Block) (signature : Signature) : Type 0 where
  -- the block is within the limits of the encoding
  pub fits : Fits b
  -- its author is a member
  pub author : IsMember members b.author
  -- the authors of its parents are members
  pub parent_authors : All (IsMember members) (authors b.parents)
  -- a block of round 0 has no parents
  pub genesis : b.round ≡ 0 → b.parents ≡ []
  -- the authors of the parents of a later block reach the quorum
  pub parents : 0 < b.round → ReachesQuorum members (authors b.parents)
  -- its author signed its digest
  pub signed : IsSignedBy accepts members b.author (text_of_block (digest_of b)) signature

-- the block is well formed with some signature
abbrev pub IsWellFormed : Meaning → List Member → Block → Type 0
IsWellFormed accepts members b = (signature : Signature) × IsWellFormedWith accepts members b signature

-- the seal has its signer's signature of the text
abbrev pub IsSealFor : Meaning → List Member → List ℕ → Seal → Type 0
IsSealFor accepts members text seal = IsSignedBy accepts members seal.signer text seal.signature

-- the seal is its signer's vote for the certificate's digest, round and author
abbrev pub IsSealOf : Meaning → List Member → Certificate → Seal → Type 0
IsSealOf accepts members c seal = IsSealFor accepts members (text_of_vote (certificate_subject c)) seal

-- the certificate is valid
pub record IsValid (accepts : Meaning) (members : List Member) (c : Certificate) : Type 0 where
  -- the certificate is within the limits of the encoding
  pub fits : CertificateFits c
  -- its author is a member
  pub author : IsMember members c.author
  -- its signers are members
  pub signer_numbers : All (IsMember members) (signers c.votes)
  -- its signers reach the quorum
  pub votes : ReachesQuorum members (signers c.votes)
  -- each seal is its signer's vote
  pub sealed : All (IsSealOf accepts members c) c.votes
