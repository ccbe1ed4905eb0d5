-- The result of checking a text.
use Rattle.std.specs.Prelude.{◌≡◌, ◌≢◌, ℕ, List}
use Rattle.nw_decode.specs.Faults.{IsFirstFault}
use Rattle.nw_codec.specs.Spelled.{Spells}
use Rattle.nw_codec.specs.declared.block.Block.{Block}
use Rattle.nw_codec.specs.declared.certificate.Signature.{Signature}
use Rattle.nw_codec.specs.declared.certificate.Certificate.{Certificate}
use Rattle.nw_codec.specs.declared.message.Message.TheVariants as messages
use Rattle.nw_decode.specs.declared.error.DecodeError.TheVariants as decode_error
use Rattle.nw_committee.specs.declared.member.Member.{Member}
use Rattle.nw_sig.specs.Signed.{Meaning}
use Rattle.nw_model.specs.Checks.{IsWellFormedWith, IsValid}
use Rattle.nw_check.specs.Fault.{BreaksRule, BreaksCertRule}
use Rattle.nw_check.specs.declared.message.Checked.{Checked}
use Rattle.nw_check.specs.declared.message.Checked.TheVariants as checked

-- The check of the text may give this result:
-- `Block`, `Cert`: the text spells the block or the certificate, which is well formed or valid under these members;
-- `Vote`: the text spells the vote;
-- `BadText`: the text has this first fault, which is not `NoMemory`;
-- `BadBlock`, `BadCert`: the text spells a block or a certificate, and this is the first rule that it breaks.
abbrev pub IsChecked : {S : Type 0} → Meaning → List Member → List ℕ → Checked S → Type 0
IsChecked accepts members text (checked.Block c) =
    Spells text (messages.Block c.block c.signature) × IsWellFormedWith accepts members c.block c.signature × (c.committee ≡ members)
IsChecked accepts members text (checked.Cert c) = Spells text (messages.Certificate c.certificate) × IsValid accepts members c.certificate × (c.committee ≡ members)
IsChecked accepts members text (checked.Vote v) = Spells text (messages.Vote v)
IsChecked accepts members text (checked.BadText e) = IsFirstFault text e × (e ≢ decode_error.NoMemory)
IsChecked accepts members text (checked.BadBlock fault) = (b : Block) × (signature : Signature) × Spells text (messages.Block b signature) × BreaksRule accepts members b signature fault
IsChecked accepts members text (checked.BadCert fault) = (c : Certificate) × Spells text (messages.Certificate c) × BreaksCertRule accepts members c fault
