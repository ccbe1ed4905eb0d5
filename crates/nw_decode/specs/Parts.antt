-- What the readers of the decoder return: the parts at the front of a text, and the stages that the reader passes.
use Rattle.std.specs.Prelude.{◌≡◌, ◌⊎◌, ℕ, suc, ◌*◌, ◌<◌, ◌^◌, nat_lt, List, [], ◌∷◌, ◌++◌, length, MatchResult, Option, Some, None, Result, Ok, Err, if◌then◌else◌}
use Rattle.std.specs.List.{flat_map}
use Rattle.std.specs.Int.{to_be_bytes, w16}
use Rattle.nw_codec.specs.declared.block.Block.{Block}
use Rattle.nw_codec.specs.declared.certificate.Certificate.{Certificate}
use Rattle.nw_codec.specs.declared.certificate.Signature.{Signature}
use Rattle.nw_codec.specs.declared.message.Message.{Message}
use Rattle.nw_decode.specs.declared.error.DecodeError.{DecodeError}
use Rattle.nw_decode.specs.declared.error.DecodeError.TheVariants.{NoMemory}
use Rattle.nw_codec.specs.Grammar.{round_bytes, parent_bytes, subject_bytes, seal_bytes}
use Rattle.nw_codec.specs.Packed.{transaction_bytes}
use Rattle.nw_codec.specs.Fits.{Fits, CertificateFits}
use Rattle.nw_codec.specs.Typed.{IsBlock, IsSignature, IsCertificate}
use Rattle.nw_decode.specs.Faults.{Stage, AtEnd, width, after_field, number16, comes_after, IsFirstFault}
use Rattle.nw_codec.specs.Spelled.{Spells, DecodingAllocates}
use Rattle.nw_codec.specs.Subject.{certificate_subject}

-- ---- the parts at the front of a text

-- a number of two bytes, before the rest
pub record NumberAt (text : List ℕ) (n : ℕ) (rest : List ℕ) : Type 0 where
  -- two bytes
  pub low : n < 2 ^ 16
  -- the text begins with the number
  pub bytes : text ≡ to_be_bytes w16 n ++ rest

-- a round, before the rest
pub record RoundAt (text : List ℕ) (n : ℕ) (rest : List ℕ) : Type 0 where
  -- six bytes
  pub low : n < 2 ^ 48
  -- the text begins with the round
  pub bytes : text ≡ round_bytes n ++ rest

-- version 1, author and round, before the rest
pub record HeadAt (text : List ℕ) (author round : ℕ) (rest : List ℕ) : Type 0 where
  -- two bytes
  pub low_author : author < 2 ^ 16
  -- six bytes
  pub low_round : round < 2 ^ 48
  -- the text begins with the head
  pub bytes : text ≡ (1 ∷ []) ++ (to_be_bytes w16 author ++ (round_bytes round ++ rest))

-- the text of `count` items of `width` bytes each, before the rest
pub record ItemsAt (width count : ℕ) (text items rest : List ℕ) : Type 0 where
  -- the size of the items
  pub len : length items ≡ width * count
  -- the text begins with the items
  pub bytes : text ≡ items ++ rest

-- the number of parents and their text, before the rest
pub record ParentsAt (text parents rest : List ℕ) : Type 0 where
  -- the number of parents
  pub count : ℕ
  -- two bytes
  pub low : count < 2 ^ 16
  -- the size of the parents
  pub len : length parents ≡ 34 * count
  -- the text begins with the number and the parents
  pub bytes : text ≡ to_be_bytes w16 count ++ (parents ++ rest)

-- the number of transactions and their text, before the rest
pub record TransactionsAt (text : List ℕ) (count : ℕ) (transactions rest : List ℕ) : Type 0 where
  -- two bytes
  pub low : count < 2 ^ 16
  -- the text begins with the number and the transactions
  pub bytes : text ≡ to_be_bytes w16 count ++ (transactions ++ rest)

-- the text is this signature, and nothing follows
pub record LastSignature (text : List ℕ) (s : Signature) : Type 0 where
  -- 64 bytes
  pub signed : IsSignature s
  -- the text is the signature
  pub bytes : text ≡ s.0 ++ []

-- ---- stages with the same kind of field

-- the stage reads a count; if it is above `max`, the fault is `over`
pub record ReadsCount (stage : Stage) (max : ℕ) (over : DecodeError) (next : ℕ → Stage) : Type 0 where
  -- a count has two bytes
  pub wide : width stage ≡ Some 2
  -- the fault, or the next stage
  pub test : (field : List ℕ) → after_field stage field ≡ (if nat_lt max (number16 field) then Err over else Ok (next (number16 field)))

-- the stage reads an author or signer; if it is not greater than the preceding one, the fault is `disorder`
pub record ReadsMember (stage : Stage) (before : Option ℕ) (disorder : DecodeError) (next : ℕ → Stage) : Type 0 where
  -- an author or signer has two bytes
  pub wide : width stage ≡ Some 2
  -- the next stage, or the fault
  pub test : (field : List ℕ) → after_field stage field ≡ (if comes_after before (number16 field) then Ok (next (number16 field)) else Err disorder)

-- the stages of a list of items: `at` before an item's author or signer, `inside` before its other bytes
pub record AreItems (more_bytes : ℕ) (disorder : DecodeError) (at : ℕ → Option ℕ → Stage) (inside : ℕ → ℕ → Stage) : Type 0 where
  -- authors or signers ascend strictly
  pub members : (more : ℕ) (before : Option ℕ) → ReadsMember (at (suc more) before) before disorder (inside more)
  -- the other bytes have this size
  pub wide : (more author : ℕ) → width (inside more author) ≡ Some more_bytes
  -- they have no test
  pub passes : (more author : ℕ) (field : List ℕ) → after_field (inside more author) field ≡ Ok (at more (Some author))
  -- the end of the list does not depend on the last author or signer
  pub ends : (before : Option ℕ) → at 0 before ≡ at 0 None

-- the stage reads the last field of a message, which has this size and no test
pub record IsLast (bytes : ℕ) (stage : Stage) : Type 0 where
  -- the size of the field
  pub wide : width stage ≡ Some bytes
  -- the end follows
  pub passes : (field : List ℕ) → after_field stage field ≡ Ok AtEnd

-- ---- the parts of a whole text

-- these are the parts of the block's text
pub record AreBlockParts (b : Block) (author round : ℕ) (parents : List ℕ) (count : ℕ) (transactions : List ℕ) : Type 0 where
  -- a block of the program
  pub typed : IsBlock b
  -- it keeps the limits of the format
  pub fits : Fits b
  -- its author
  pub author_is : author ≡ b.author
  -- its round
  pub round_is : round ≡ b.round
  -- the encoding of its parents
  pub parents_are : parents ≡ flat_map parent_bytes b.parents
  -- the number of its transactions
  pub count_is : count ≡ length b.transactions
  -- the encoding of its transactions
  pub transactions_are : transactions ≡ flat_map transaction_bytes b.transactions

-- these are the parts of the certificate's text
pub record AreCertificateParts (c : Certificate) (subject seals : List ℕ) : Type 0 where
  -- a certificate of the program
  pub typed : IsCertificate c
  -- it keeps the limits of the format
  pub fits : CertificateFits c
  -- the encoding of its subject
  pub subject_is : subject ≡ subject_bytes (certificate_subject c)
  -- the encoding of its seals
  pub seals_are : seals ≡ flat_map seal_bytes c.votes

-- ---- answers

-- the answer is the message of the text, its first fault, or an allocation failure for a text whose decoding allocates
abbrev pub Decodes : List ℕ → Result Message DecodeError → Type 0
Decodes text answer =
    MatchResult answer
    (λ m. Spells text m)
    (λ e. IsFirstFault text e ⊎ ((e ≡ NoMemory) × DecodingAllocates text))
