-- Votes as messages.
use Rattle.std.specs.Prelude.{ℕ}
use Rattle.nw_codec.specs.declared.message.Message.{Message}
use Rattle.nw_codec.specs.declared.message.Message.TheVariants as messages
use Rattle.nw_c.specs.Plain.{digest_in}
use Rattle.nw_c.specs.declared.plain.CSubject.{CSubject}
use Rattle.nw_c.specs.declared.plain.CSignature.{CSignature}

-- the signer's vote for the block of this subject
abbrev pub vote_of : CSubject → ℕ → CSignature → Message
vote_of s signer signature = messages.Vote (record { digest = digest_in s.digest; round = s.round; author = s.author; signer = signer; signature = record { 0 = signature.bytes } })
