use Rattle.nw_codec.proofs.Sizes.{length-vote}
use Rattle.nw_codec.proofs.vote.Vote.message_size.Goals as goal

pub returns-clause-spelled : goal.returns-clause-spelled
returns-clause-spelled c text spells = length-vote text c.args.self.now spells
