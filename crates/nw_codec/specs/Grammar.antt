-- The encoding of bodies and messages. All numbers are unsigned and big-endian.
use Rattle.std.specs.Prelude.{ℕ, List, ◌∷◌, ◌++◌, length, drop}
use Rattle.std.specs.List.{flat_map}
use Rattle.std.specs.Int.{to_be_bytes, w16, w64}
use Rattle.nw_codec.specs.Packed.{transaction_bytes}
use Rattle.nw_codec.specs.Subject.{certificate_subject, vote_subject}
use Rattle.nw_codec.specs.declared.block.Ref.{Ref}
use Rattle.nw_codec.specs.declared.block.Block.{Block}
use Rattle.nw_codec.specs.declared.certificate.Seal.{Seal}
use Rattle.nw_codec.specs.declared.subject.Subject.{Subject}
use Rattle.nw_codec.specs.declared.vote.Vote.{Vote}
use Rattle.nw_codec.specs.declared.message.Message.{Message}
use Rattle.nw_codec.specs.declared.message.Message.TheVariants as messages

-- a round: six bytes
abbrev pub round_bytes : ℕ → List ℕ
round_bytes n = drop 2 (to_be_bytes w64 n)

-- a parent: its author in two bytes, and its digest
abbrev pub parent_bytes : Ref → List ℕ
parent_bytes r = to_be_bytes w16 r.author ++ r.digest.0

-- a body: version 1, author, round, number of parents, parents, number of transactions, transactions
unfoldable pub body : Block → List ℕ
body b =
    1 ∷ to_be_bytes w16 b.author ++ round_bytes b.round
    ++ to_be_bytes w16 (length b.parents) ++ flat_map parent_bytes b.parents
    ++ to_be_bytes w16 (length b.transactions) ++ flat_map transaction_bytes b.transactions

-- the subject of a vote or a certificate: the digest, the round and the author of a block
abbrev pub subject_bytes : Subject → List ℕ
subject_bytes s = s.digest.0 ++ round_bytes s.round ++ to_be_bytes w16 s.author

-- a seal: its signer in two bytes, and its signature
abbrev pub seal_bytes : Seal → List ℕ
seal_bytes s = to_be_bytes w16 s.signer ++ s.signature.0

-- the seal of a vote
abbrev pub seal : Vote → Seal
seal v = record { signer = v.signer; signature = v.signature }

-- tag 1, the body, the author's signature; tag 2, the subject, the number of seals, the seals; or tag 3, the subject, one seal
unfoldable pub message : Message → List ℕ
message (messages.Block b s) = 1 ∷ body b ++ s.0
message (messages.Certificate c) = 2 ∷ subject_bytes (certificate_subject c) ++ to_be_bytes w16 (length c.votes) ++ flat_map seal_bytes c.votes
message (messages.Vote v) = 3 ∷ subject_bytes (vote_subject v) ++ seal_bytes (seal v)
