-- Checked texts and peeks at texts, as C sees them.
use Rattle.std.specs.Prelude.{◌≡◌, ℤ, pos, replicate}
use Rattle.nw_digest.specs.declared.digest.Digest.{Digest}
use Rattle.nw_codec.specs.Subject.{block_subject, certificate_subject, vote_subject}
use Rattle.nw_decode.specs.declared.peek.Peek.{Peek}
use Rattle.nw_decode.specs.declared.peek.Peek.TheVariants as peeks
use Rattle.nw_decode.specs.declared.error.DecodeError.{DecodeError}
use Rattle.nw_decode.specs.declared.error.DecodeError.TheVariants as decode
use Rattle.nw_check.specs.declared.fault.BlockFault.{BlockFault}
use Rattle.nw_check.specs.declared.fault.BlockFault.TheVariants as block_fault
use Rattle.nw_check.specs.declared.fault.CertFault.{CertFault}
use Rattle.nw_check.specs.declared.fault.CertFault.TheVariants as cert_fault
use Rattle.nw_check.specs.declared.message.Checked.{Checked}
use Rattle.nw_check.specs.declared.message.Checked.TheVariants as checked
use Rattle.nw_model.specs.Checks.{digest_of}
use Rattle.nw_c.specs.Plain.{subject_of}
use Rattle.nw_c.specs.declared.messages.CMessage.{CMessage}
use Rattle.nw_c.specs.declared.messages.TheConstants.{BLOCK, CERTIFICATE, VOTE, TEXT_SHORT, TEXT_TRAILING, TEXT_TAG, TEXT_VERSION, TEXT_MANY_PARENTS, TEXT_PARENT_ORDER, TEXT_MANY_TRANSACTIONS, TEXT_LONG_TRANSACTION, TEXT_LONG_BODY, TEXT_MANY_VOTES, TEXT_VOTE_ORDER, BLOCK_AUTHOR, BLOCK_PARENT_AUTHOR, BLOCK_GENESIS_PARENTS, BLOCK_FEW_PARENTS, BLOCK_SIGNATURE, CERT_AUTHOR, CERT_SIGNER, CERT_FEW_VOTES, CERT_SIGNATURE}

-- the kind of a text that is not a message
abbrev pub text_kind : DecodeError → ℤ
text_kind decode.Short = TEXT_SHORT
text_kind decode.Trailing = TEXT_TRAILING
text_kind decode.Tag = TEXT_TAG
text_kind decode.Version = TEXT_VERSION
text_kind decode.TooManyParents = TEXT_MANY_PARENTS
text_kind decode.ParentOrder = TEXT_PARENT_ORDER
text_kind decode.TooManyTransactions = TEXT_MANY_TRANSACTIONS
text_kind decode.TransactionTooLong = TEXT_LONG_TRANSACTION
text_kind decode.BodyTooLong = TEXT_LONG_BODY
text_kind decode.TooManyVotes = TEXT_MANY_VOTES
text_kind decode.VoteOrder = TEXT_VOTE_ORDER
text_kind decode.NoMemory = pos 0

-- the kind of a block that breaks a rule
abbrev pub block_kind : BlockFault → ℤ
block_kind block_fault.Author = BLOCK_AUTHOR
block_kind block_fault.ParentAuthor = BLOCK_PARENT_AUTHOR
block_kind block_fault.GenesisParents = BLOCK_GENESIS_PARENTS
block_kind block_fault.FewParents = BLOCK_FEW_PARENTS
block_kind block_fault.Signature = BLOCK_SIGNATURE
block_kind block_fault.NoMemory = pos 0

-- the kind of a certificate that breaks a rule
abbrev pub cert_kind : CertFault → ℤ
cert_kind cert_fault.Author = CERT_AUTHOR
cert_kind cert_fault.Signer = CERT_SIGNER
cert_kind cert_fault.FewVotes = CERT_FEW_VOTES
cert_kind (cert_fault.Signature signer) = CERT_SIGNATURE
cert_kind cert_fault.NoMemory = pos 0

-- m is what the checked text is: a block, certificate or vote with its subject, or a fault
abbrev pub IsMessageOf : {S : Type 0} → Checked S → CMessage → Type 0
IsMessageOf (checked.Block c) m = (m.kind ≡ BLOCK) × (m.subject ≡ subject_of (block_subject (digest_of c.block) c.block))
IsMessageOf (checked.Cert c) m = (m.kind ≡ CERTIFICATE) × (m.subject ≡ subject_of (certificate_subject c.certificate))
IsMessageOf (checked.Vote v) m = (m.kind ≡ VOTE) × (m.subject ≡ subject_of (vote_subject v)) × (m.signer ≡ v.signer)
IsMessageOf (checked.BadText e) m = m.kind ≡ text_kind e
IsMessageOf (checked.BadBlock fault) m = m.kind ≡ block_kind fault
IsMessageOf (checked.BadCert (cert_fault.Signature signer)) m = (m.kind ≡ CERT_SIGNATURE) × (m.signer ≡ signer)
IsMessageOf (checked.BadCert fault) m = m.kind ≡ cert_kind fault

-- the digest of 32 zeros
abbrev pub no_digest : Digest
no_digest = record { 0 = replicate 32 0 }

-- m is what the peek says: a block with its round and author, a certificate with its subject, or a vote with its subject and signer
abbrev pub IsPeekOf : Peek → CMessage → Type 0
IsPeekOf (peeks.Block round author) m = (m.kind ≡ BLOCK) × (m.subject ≡ subject_of (record { digest = no_digest; round = round; author = author }))
IsPeekOf (peeks.Certificate s) m = (m.kind ≡ CERTIFICATE) × (m.subject ≡ subject_of s)
IsPeekOf (peeks.Vote s signer) m = (m.kind ≡ VOTE) × (m.subject ≡ subject_of s) × (m.signer ≡ signer)
