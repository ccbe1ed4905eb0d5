-- Checked blocks and certificates, as contracts see them.
use Rattle.std.specs.Prelude.{List}
use Rattle.nw_codec.specs.declared.block.Block.{Block}
use Rattle.nw_codec.specs.declared.certificate.Certificate.{Certificate}
use Rattle.nw_codec.specs.declared.certificate.Signature.{Signature}
use Rattle.nw_committee.specs.declared.member.Member.{Member}

-- a block with its author's signature, and a committee
pub record CheckedBlockView : Type 0 where
  -- the checked block
  pub block : Block
  -- its author's signature
  pub signature : Signature
  -- the members under which the block is well formed with that signature
  pub committee : List Member

-- a certificate and a committee
pub record CheckedCertView : Type 0 where
  -- the checked certificate
  pub certificate : Certificate
  -- the members under which it is valid
  pub committee : List Member
