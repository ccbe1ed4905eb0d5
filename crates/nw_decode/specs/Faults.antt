-- The first fault of a text in reading order. A text is read field by field.
use Rattle.std.specs.Prelude.{◌≡◌, ◌≢◌, ℕ, zero, suc, ◌+◌, ◌*◌, ◌==◌, nat_lt, Bool, true, List, [], ◌∷◌, ◌++◌, length, take, slice_index, MatchBool, MatchOption, Option, Some, None, Result, Ok, Err, if◌then◌else◌}
use Rattle.std.specs.List.{flat_map}
use Rattle.std.specs.Option.{option_map_or}
use Rattle.std.specs.Int.{from_be_bytes, w16, w32}
use Rattle.nw_decode.specs.declared.error.DecodeError.{DecodeError}
use Rattle.nw_codec.specs.Limits.{most_parents, most_transactions, longest_transaction, longest_body, most_votes}
use Rattle.nw_decode.specs.declared.error.DecodeError.TheVariants.{Short, Trailing, Tag, Version, TooManyParents, ParentOrder, TooManyTransactions, TransactionTooLong, BodyTooLong, TooManyVotes, VoteOrder}

-- the kinds of messages that have a subject: the digest, the round and the author of a block
pub data Kind : Type 0 where
  OfCertificate : Kind
  OfVote : Kind

-- The next field, and the values that later tests need. `more` is how many parents, transactions or seals follow this one.
-- `before` is the preceding author or signer. `size` is the number of bytes of the body so far.
pub data Stage : Type 0 where
  AtTag : Stage
  AtVersion : Stage
  AtAuthor : Stage
  AtRound : Stage
  AtParentCount : Stage
  AtParentAuthor : (more : ℕ) (before : Option ℕ) (size : ℕ) → Stage
  AtParentDigest : (more author size : ℕ) → Stage
  AtTransactionCount : (size : ℕ) → Stage
  AtTransactionLength : (more size : ℕ) → Stage
  AtTransaction : (len more size : ℕ) → Stage
  AtSignature : Stage
  AtDigest : (kind : Kind) → Stage
  AtSubjectRound : (kind : Kind) → Stage
  AtSubjectAuthor : (kind : Kind) → Stage
  AtVoteCount : Stage
  AtSigner : (more : ℕ) (before : Option ℕ) → Stage
  AtSealSignature : (more signer : ℕ) → Stage
  AtEnd : Stage

-- the size of the next field; none at the end
abbrev pub width : Stage → Option ℕ
width AtTag = Some 1
width AtVersion = Some 1
width AtAuthor = Some 2
width AtRound = Some 6
width AtParentCount = Some 2
width (AtParentAuthor more before size) = Some 2
width (AtParentDigest more author size) = Some 32
width (AtTransactionCount size) = Some 2
width (AtTransactionLength more size) = Some 4
width (AtTransaction len more size) = Some len
width AtSignature = Some 64
width (AtDigest kind) = Some 32
width (AtSubjectRound kind) = Some 6
width (AtSubjectAuthor kind) = Some 2
width AtVoteCount = Some 2
width (AtSigner more before) = Some 2
width (AtSealSignature more signer) = Some 64
width AtEnd = None

-- the stage with this many parents left to read: before the next one, or after the last one
abbrev pub at_parents : ℕ → Option ℕ → ℕ → Stage
at_parents zero before size = AtTransactionCount size
at_parents (suc more) before size = AtParentAuthor more before size

-- the stage with this many transactions left to read: before the next one, or after the last one
abbrev pub at_transactions : ℕ → ℕ → Stage
at_transactions zero size = AtSignature
at_transactions (suc more) size = AtTransactionLength more size

-- the stage with this many seals left to read: before the next one, or after the last one
abbrev pub at_seals : ℕ → Option ℕ → Stage
at_seals zero before = AtEnd
at_seals (suc more) before = AtSigner more before

-- after the subject: a certificate has the number of its seals, and a vote has one seal
abbrev pub stage_after_subject : Kind → Stage
stage_after_subject OfCertificate = AtVoteCount
stage_after_subject OfVote = AtSigner 0 None

-- the number in a field of two bytes
abbrev pub number16 : List ℕ → ℕ
number16 field = from_be_bytes w16 field

-- the number in a field of four bytes
abbrev pub number32 : List ℕ → ℕ
number32 field = from_be_bytes w32 field

-- the author or signer is greater than the preceding one, if there is one
abbrev pub comes_after : Option ℕ → ℕ → Bool
comes_after before author = option_map_or (λ b. nat_lt b author) before true

-- the stage after this tag, or the fault `Tag`
abbrev pub after_tag : ℕ → Result Stage DecodeError
after_tag tag =
    if tag == 1 then Ok AtVersion
    else if tag == 2 then Ok (AtDigest OfCertificate)
    else if tag == 3 then Ok (AtDigest OfVote)
    else Err Tag

-- the size of a body before its parents: version, author, round and number of parents
abbrev pub size_before_parents : ℕ
size_before_parents = 11

-- the size of a parent: author and digest
abbrev pub parent_size : ℕ
parent_size = 34

-- the stage after this field, which is whole, or the fault of its test
abbrev pub after_field : Stage → List ℕ → Result Stage DecodeError
after_field AtTag field = after_tag (slice_index field 0)
after_field AtVersion field = if slice_index field 0 == 1 then Ok AtAuthor else Err Version
after_field AtAuthor field = Ok AtRound
after_field AtRound field = Ok AtParentCount
after_field AtParentCount field =
    if nat_lt most_parents (number16 field) then Err TooManyParents
    else Ok (at_parents (number16 field) None (size_before_parents + parent_size * number16 field))
after_field (AtParentAuthor more before size) field =
    if comes_after before (number16 field) then Ok (AtParentDigest more (number16 field) size) else Err ParentOrder
after_field (AtParentDigest more author size) field = Ok (at_parents more (Some author) size)
after_field (AtTransactionCount size) field =
    if nat_lt most_transactions (number16 field) then Err TooManyTransactions
    else Ok (at_transactions (number16 field) (size + 2))
after_field (AtTransactionLength more size) field =
    if nat_lt longest_transaction (number32 field) then Err TransactionTooLong
    else if nat_lt longest_body (size + 4 + number32 field) then Err BodyTooLong
    else Ok (AtTransaction (number32 field) more (size + 4 + number32 field))
after_field (AtTransaction len more size) field = Ok (at_transactions more size)
after_field AtSignature field = Ok AtEnd
after_field (AtDigest kind) field = Ok (AtSubjectRound kind)
after_field (AtSubjectRound kind) field = Ok (AtSubjectAuthor kind)
after_field (AtSubjectAuthor kind) field = Ok (stage_after_subject kind)
after_field AtVoteCount field =
    if nat_lt most_votes (number16 field) then Err TooManyVotes
    else Ok (at_seals (number16 field) None)
after_field (AtSigner more before) field =
    if comes_after before (number16 field) then Ok (AtSealSignature more (number16 field)) else Err VoteOrder
after_field (AtSealSignature more signer) field = Ok (at_seals more (Some signer))
after_field AtEnd field = Ok AtEnd

-- the fields have their sizes, pass their tests in order, and lead from one stage to the other
abbrev pub Leads : Stage → List (List ℕ) → Stage → Type 0
Leads from [] to = from ≡ to
Leads from (field ∷ fields) to =
    (width from ≡ Some (length field)) × (next : Stage) × (after_field from field ≡ Ok next) × Leads next fields to

-- fields at the front of the text pass their tests and lead from one stage to the other; `rest` is the text after these fields
pub record Reaches (from : Stage) (text : List ℕ) (to : Stage) (rest : List ℕ) : Type 0 where
  -- the fields
  pub fields : List (List ℕ)
  -- they lead from one stage to the other
  pub leads : Leads from fields to
  -- the text is these fields and the rest
  pub whole : text ≡ flat_map (λ field. field) fields ++ rest

-- the first fields of the text pass their tests and lead to this stage; `rest` is the text after these fields
abbrev pub IsGoodFront : List ℕ → Stage → List ℕ → Type 0
IsGoodFront text stage rest = Reaches AtTag text stage rest

-- the text is all fields of a message, and they pass their tests
abbrev pub IsWhole : List ℕ → Type 0
IsWhole text = IsGoodFront text AtEnd []

-- the fault at this stage, when `rest` is left to read: bytes follow the last field, the next field is cut short, or its test fails
abbrev pub StopsAt : Stage → List ℕ → DecodeError → Type 0
StopsAt stage rest e =
    MatchOption (width stage)
    ((rest ≢ []) × (e ≡ Trailing))
    (λ w. MatchBool (nat_lt (length rest) w) (e ≡ Short) (after_field stage (take w rest) ≡ Err e))

-- the fault of a text that is read from this stage on: the fields before it pass their tests
abbrev pub FaultFrom : Stage → List ℕ → DecodeError → Type 0
FaultFrom from text e = (stage : Stage) × (rest : List ℕ) × Reaches from text stage rest × StopsAt stage rest e

-- the first fault of the text in reading order
abbrev pub IsFirstFault : List ℕ → DecodeError → Type 0
IsFirstFault text e = FaultFrom AtTag text e
