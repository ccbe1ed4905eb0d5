-- The subjects of blocks, certificates and votes.
use Rattle.nw_digest.specs.declared.digest.Digest.{Digest}
use Rattle.nw_codec.specs.declared.block.Block.{Block}
use Rattle.nw_codec.specs.declared.certificate.Certificate.{Certificate}
use Rattle.nw_codec.specs.declared.subject.Subject.{Subject}
use Rattle.nw_codec.specs.declared.vote.Vote.{Vote}

-- the subject of a block under this digest
abbrev pub block_subject : Digest → Block → Subject
block_subject d b = record { digest = d; round = b.round; author = b.author }

-- the subject of a certificate
abbrev pub certificate_subject : Certificate → Subject
certificate_subject c = record { digest = c.digest; round = c.round; author = c.author }

-- the subject of a vote
abbrev pub vote_subject : Vote → Subject
vote_subject v = record { digest = v.digest; round = v.round; author = v.author }
