-- The replies that answers have.
use Rattle.std.specs.Prelude.{◌≡◌, ◌⊎◌, ℕ, List, Option, Some, None, slice_get}
use Rattle.nw_codec.specs.Spelled.{Spells}
use Rattle.nw_codec.specs.declared.block.Block.{Block}
use Rattle.nw_codec.specs.declared.certificate.Certificate.{Certificate}
use Rattle.nw_codec.specs.declared.message.Message.TheVariants as messages
use Rattle.nw_model.specs.declared.wanted.Wanted.{Wanted}
use Rattle.nw_model.specs.declared.reply.Counts.{Counts}
use Rattle.nw_model.specs.declared.reply.Reply.{Reply}
use Rattle.nw_model.specs.declared.reply.Reply.TheVariants as reply
use Rattle.nw_c.specs.Plain.{subject_of}
use Rattle.nw_c.specs.declared.answers.CStatus.{CStatus}
use Rattle.nw_c.specs.declared.plain.CSubject.{CSubject}
use Rattle.nw_c.specs.declared.content.Content.{Content}
use Rattle.nw_c.specs.declared.content.Content.TheVariants as kind

-- it is the answer to a read that found the block
abbrev pub FindsBlock : Content → Content → Type 0
FindsBlock (kind.Answer told) (kind.Block b) = told.event.reply ≡ reply.Read (Some b)
FindsBlock answer other = ⊥

-- the text is the message of the certificate of this reply
abbrev pub IsSpelledIn : Reply → List ℕ → Type 0
IsSpelledIn (reply.Certificate (Some c)) text = Spells text (messages.Certificate c)
IsSpelledIn other text = ⊥

-- it is the answer to a call for a certificate, and the text is the certificate's message
abbrev pub EncodesCertificate : Content → List ℕ → Type 0
EncodesCertificate (kind.Answer told) text = IsSpelledIn told.event.reply text
EncodesCertificate other text = ⊥

-- the option has a missing parent, and it has this subject
abbrev pub IsSubjectOf : Option Wanted → CSubject → Type 0
IsSubjectOf (Some w) s = s ≡ subject_of (record { digest = w.digest; round = w.round; author = w.author })
IsSubjectOf None s = ⊥

-- the reply lists missing parents, of all blocks or of one, and the one at the index has this subject
abbrev pub IsListedIn : Reply → ℕ → CSubject → Type 0
IsListedIn (reply.Missing wanted) index s = IsSubjectOf (slice_get wanted index) s
IsListedIn (reply.MissingOf (Some missing)) index s = IsSubjectOf (slice_get missing index) s
IsListedIn other index s = ⊥

-- it is the answer to a call for missing parents, and the listed one at the index has this subject
abbrev pub IsMissingAt : Content → ℕ → CSubject → Type 0
IsMissingAt (kind.Answer told) index s = IsListedIn told.event.reply index s
IsMissingAt other index s = ⊥

-- the counts in a status of C
abbrev pub counts_of : CStatus → Counts
counts_of s = record { floor = s.garbage_round; blocks = s.blocks; certificates = s.certificates; complete = s.complete; wanted = s.wanted }

-- it is the answer to a call for the status, with these counts
abbrev pub EncodesStatus : Content → CStatus → Type 0
EncodesStatus (kind.Answer told) s = told.event.reply ≡ reply.Status (counts_of s)
EncodesStatus other s = ⊥

-- the reply lists missing parents, and none at the index
abbrev pub ListsNoneAt : Reply → ℕ → Type 0
ListsNoneAt (reply.Missing wanted) index = slice_get wanted index ≡ None
ListsNoneAt (reply.MissingOf (Some missing)) index = slice_get missing index ≡ None
ListsNoneAt other index = ⊥

-- it is the answer to a call for missing parents, and lists none at the index
abbrev pub HasNoMissingAt : Content → ℕ → Type 0
HasNoMissingAt (kind.Answer told) index = ListsNoneAt told.event.reply index
HasNoMissingAt other index = ⊥

-- it is an answer with this reply
abbrev pub HasReply : Content → Reply → Type 0
HasReply (kind.Answer told) r = told.event.reply ≡ r
HasReply other r = ⊥

-- the answers to a read, to a call for a certificate, to a call for missing parents, and to a call for the status

abbrev pub AnswersRead : Content → Type 0
AnswersRead answer = (found : Option Block) × HasReply answer (reply.Read found)

abbrev pub AnswersCertificate : Content → Type 0
AnswersCertificate answer = (found : Option Certificate) × HasReply answer (reply.Certificate found)

abbrev pub AnswersMissing : Content → Type 0
AnswersMissing answer = (wanted : List Wanted) × (HasReply answer (reply.Missing wanted) ⊎ HasReply answer (reply.MissingOf (Some wanted)))

abbrev pub AnswersStatus : Content → Type 0
AnswersStatus answer = (counts : Counts) × HasReply answer (reply.Status counts)
