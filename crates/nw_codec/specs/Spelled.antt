-- The grammar: which texts encode which messages.
use Rattle.std.specs.Prelude.{◌≡◌, ◌≢◌, ◌⊎◌, ℕ, List, [], ◌++◌}
use Rattle.nw_codec.specs.declared.block.Block.{Block}
use Rattle.nw_codec.specs.declared.certificate.Signature.{Signature}
use Rattle.nw_codec.specs.declared.certificate.Certificate.{Certificate}
use Rattle.nw_codec.specs.declared.message.Message.{Message}
use Rattle.nw_codec.specs.declared.message.Message.TheVariants as messages
use Rattle.nw_codec.specs.Grammar.{message}
use Rattle.nw_codec.specs.Fits.{MessageFits}
use Rattle.nw_codec.specs.Typed.{IsMessage}

-- the text encodes this message, which keeps the limits of the format
pub record Spells (text : List ℕ) (m : Message) : Type 0 where
  -- the message is one of the program
  pub typed : IsMessage m
  -- it keeps the limits
  pub fits : MessageFits m
  -- the text is its encoding
  pub bytes : text ≡ message m

-- the text encodes a message
abbrev pub IsSpelled : List ℕ → Type 0
IsSpelled text = (m : Message) × Spells text m

-- the text encodes a block and its signature
abbrev pub IsBlockText : List ℕ → Type 0
IsBlockText text = (b : Block) × (s : Signature) × Spells text (messages.Block b s)

-- the text encodes a certificate
abbrev pub IsCertificateText : List ℕ → Type 0
IsCertificateText text = (c : Certificate) × Spells text (messages.Certificate c)

-- decoding the text allocates: it encodes a block or a certificate
abbrev pub DecodingAllocates : List ℕ → Type 0
DecodingAllocates text = IsBlockText text ⊎ IsCertificateText text

-- the text begins with that of a message, and more bytes follow
abbrev pub HasTrailingBytes : List ℕ → Type 0
HasTrailingBytes text = (front rest : List ℕ) × IsSpelled front × (rest ≢ []) × (text ≡ front ++ rest)
