-- The fixed fields at the front of a message's text.
use Rattle.std.specs.Prelude.{◌≡◌, ◌⊎◌, ℕ, ◌<◌, ◌≤◌, ◌^◌, List, ◌∷◌, ◌++◌, length, slice_index, Option, MatchOption}
use Rattle.std.specs.Int.{to_be_bytes, w16}
use Rattle.nw_codec.specs.declared.message.Message.{Message}
use Rattle.nw_codec.specs.declared.message.Message.TheVariants as messages
use Rattle.nw_decode.specs.declared.peek.Peek.{Peek}
use Rattle.nw_decode.specs.declared.peek.Peek.TheVariants as peeks
use Rattle.nw_codec.specs.Grammar.{round_bytes, subject_bytes}
use Rattle.nw_codec.specs.Subject.{certificate_subject, vote_subject}
use Rattle.nw_codec.specs.Typed.{IsSubject}

-- the kind of the message: a block with its round and author, a certificate with its subject, or a vote with its subject and signer
abbrev pub peek_of : Message → Peek
peek_of (messages.Block b s) = peeks.Block b.round b.author
peek_of (messages.Certificate c) = peeks.Certificate (certificate_subject c)
peek_of (messages.Vote v) = peeks.Vote (vote_subject v) v.signer

-- the fields as a message begins with them: tag 1, version 1, author and round; tag 2 and the subject; or tag 3, the subject and the signer
abbrev pub peek_bytes : Peek → List ℕ
peek_bytes (peeks.Block round author) = 1 ∷ 1 ∷ to_be_bytes w16 author ++ round_bytes round
peek_bytes (peeks.Certificate s) = 2 ∷ subject_bytes s
peek_bytes (peeks.Vote s signer) = 3 ∷ subject_bytes s ++ to_be_bytes w16 signer

-- the fields are in the ranges of the program
abbrev pub IsPeek : Peek → Type 0
IsPeek (peeks.Block round author) = (round < 2 ^ 48) × (author < 2 ^ 16)
IsPeek (peeks.Certificate s) = IsSubject s
IsPeek (peeks.Vote s signer) = IsSubject s × (signer < 2 ^ 16)

-- the text begins with these fields
abbrev pub BeginsWith : List ℕ → Peek → Type 0
BeginsWith text p = IsPeek p × ((rest : List ℕ) × (text ≡ peek_bytes p ++ rest))

-- the text has tag 1, version 1 and 8 bytes more; tag 2 and the 40 bytes of a subject; or tag 3 and the 42 bytes of a subject and a signer
abbrev pub HasPeek : List ℕ → Type 0
HasPeek text =
    ((slice_index text 0 ≡ 1) × (slice_index text 1 ≡ 1) × (10 ≤ length text))
    ⊎ ((slice_index text 0 ≡ 2) × (41 ≤ length text))
    ⊎ ((slice_index text 0 ≡ 3) × (43 ≤ length text))

-- the answer is the fields that the text begins with, or none if it begins with none
abbrev pub Peeks : List ℕ → Option Peek → Type 0
Peeks text answer = MatchOption answer (HasPeek text → ⊥) (λ p. BeginsWith text p)
