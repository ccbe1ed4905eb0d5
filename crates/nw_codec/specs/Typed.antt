-- The ranges of the program's types. In definitions, numbers and lists have no bounds. A value of the program is in the range of its type.
use Rattle.std.specs.Prelude.{◌≡◌, ◌<◌, ◌^◌, length, All}
pub use Rattle.nw_digest.specs.Bytes.{AreBytes}
use Rattle.nw_codec.specs.declared.block.Ref.{Ref}
use Rattle.nw_codec.specs.declared.block.Block.{Block}
use Rattle.nw_codec.specs.declared.subject.Subject.{Subject}
use Rattle.nw_codec.specs.declared.certificate.Signature.{Signature}
use Rattle.nw_codec.specs.declared.certificate.Seal.{Seal}
use Rattle.nw_codec.specs.declared.certificate.Certificate.{Certificate}
use Rattle.nw_codec.specs.declared.vote.Vote.{Vote}
use Rattle.nw_codec.specs.declared.message.Message.{Message}
use Rattle.nw_codec.specs.declared.message.Message.TheVariants as messages
use Rattle.nw_codec.specs.Grammar.{seal}
use Rattle.nw_codec.specs.Subject.{certificate_subject, vote_subject}

-- a reference of the program
pub record IsRef (r : Ref) : Type 0 where
  -- two bytes
  pub author : r.author < 2 ^ 16
  -- 32 bytes
  pub digest : length r.digest.0 ≡ 32
  -- each number of the digest is a byte
  pub digest_bytes : AreBytes r.digest.0

-- a block of the program
pub record IsBlock (b : Block) : Type 0 where
  -- two bytes
  pub author : b.author < 2 ^ 16
  -- six bytes
  pub round : b.round < 2 ^ 48
  -- each parent is a reference of the program
  pub parents : All IsRef b.parents
  -- each transaction is a list of bytes
  pub transactions : All AreBytes b.transactions

-- a signature of the program
pub record IsSignature (s : Signature) : Type 0 where
  -- 64 numbers
  pub len : length s.0 ≡ 64
  -- each is a byte
  pub bytes : AreBytes s.0

-- a seal of the program
pub record IsSeal (s : Seal) : Type 0 where
  -- two bytes
  pub signer : s.signer < 2 ^ 16
  -- 64 bytes
  pub signature : IsSignature s.signature

-- a subject of the program
pub record IsSubject (s : Subject) : Type 0 where
  -- the digest has 32 numbers
  pub digest_len : length s.digest.0 ≡ 32
  -- each is a byte
  pub digest_bytes : AreBytes s.digest.0
  -- six bytes
  pub low_round : s.round < 2 ^ 48
  -- two bytes
  pub low_author : s.author < 2 ^ 16

-- a certificate of the program
pub record IsCertificate (c : Certificate) : Type 0 where
  -- digest, round and author
  pub subject : IsSubject (certificate_subject c)
  -- each vote is a seal of the program
  pub votes : All IsSeal c.votes

-- a vote of the program
pub record IsVote (v : Vote) : Type 0 where
  -- digest, round and author
  pub subject : IsSubject (vote_subject v)
  -- the signer and its signature
  pub sealed : IsSeal (seal v)

-- a message of the program
abbrev pub IsMessage : Message → Type 0
IsMessage (messages.Block b s) = IsBlock b × IsSignature s
IsMessage (messages.Certificate c) = IsCertificate c
IsMessage (messages.Vote v) = IsVote v
