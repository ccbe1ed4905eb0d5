use Rattle.nw_codec.proofs.Words.{◌∙◌, rules}
use Rattle.nw_codec.proofs.Sizes.{length-block}
use Rattle.nw_codec.proofs.block.Block.message_size.Goals as goal

pub returns-clause-spelled : goal.returns-clause-spelled
returns-clause-spelled c text s spells = length-block text c.args.self.now s spells ∙ search rules
