-- Checked texts.
use Rattle.std.specs.Prelude.{◌≡◌, ℕ, List, Some, None, slice_get}
use Rattle.nw_sig.specs.Signed.{Meaning}
use Rattle.nw_codec.specs.Fits.{signers}
use Rattle.nw_codec.specs.Spelled.{Spells}
use Rattle.nw_codec.specs.declared.message.Message.TheVariants as messages
use Rattle.nw_check.specs.Message.{IsChecked}
use Rattle.nw_check.specs.declared.message.Checked.TheVariants as checked
use Rattle.nw_c.specs.Messages.{IsMessageOf}
use Rattle.nw_c.specs.declared.messages.CMessage.{CMessage}
use Rattle.nw_c.specs.declared.content.Content.{Content}
use Rattle.nw_c.specs.declared.content.Content.TheVariants as kind

-- it is the result of checking this text under the committee
abbrev pub IsCheckOf : Meaning → Content → List ℕ → Content → Type 0
IsCheckOf accepts (kind.Committee members) text (kind.Checked c) = IsChecked accepts members text c
IsCheckOf accepts committee text other = ⊥

-- m is what the checked text is
abbrev pub EncodesMessageOf : Content → CMessage → Type 0
EncodesMessageOf (kind.Checked c) m = IsMessageOf c m
EncodesMessageOf other m = ⊥

-- it is the checked block
abbrev pub IsBlockOf : Content → Content → Type 0
IsBlockOf (kind.Checked (checked.Block c)) (kind.Block b) = c.block ≡ b
IsBlockOf one other = ⊥

-- the text is the message of the checked block, certificate or vote
abbrev pub IsSpelledBy : Content → List ℕ → Type 0
IsSpelledBy (kind.Checked (checked.Block c)) text = Spells text (messages.Block c.block c.signature)
IsSpelledBy (kind.Checked (checked.Cert c)) text = Spells text (messages.Certificate c.certificate)
IsSpelledBy (kind.Checked (checked.Vote v)) text = Spells text (messages.Vote v)
IsSpelledBy other text = ⊥

-- it is a checked certificate whose signer at the index has this number
abbrev pub HasSignerAt : Content → ℕ → ℕ → Type 0
HasSignerAt (kind.Checked (checked.Cert c)) index signer = slice_get (signers c.certificate.votes) index ≡ Some signer
HasSignerAt other index signer = ⊥

-- it is a checked certificate without a signer at the index
abbrev pub HasNoSignerAt : Content → ℕ → Type 0
HasNoSignerAt (kind.Checked (checked.Cert c)) index = slice_get c.certificate.votes index ≡ None
HasNoSignerAt other index = ⊥
