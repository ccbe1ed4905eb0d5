use Rattle.nw_codec.proofs.Words.{◌∙◌, rules}
use Rattle.nw_codec.proofs.Sizes.{length-certificate}
use Rattle.nw_codec.proofs.certificate.Certificate.message_size.Goals as goal

pub returns-clause-spelled : goal.returns-clause-spelled
returns-clause-spelled c text spells = length-certificate text c.args.self.now spells ∙ search rules
