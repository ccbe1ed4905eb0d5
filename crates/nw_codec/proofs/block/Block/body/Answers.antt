use Rattle.nw_codec.proofs.Words.{[], ap, ◌∙◌, length}
use Rattle.nw_codec.proofs.Sizes.{length-body}
use Rattle.nw_codec.proofs.block.Block.body.Goals as goal

pub returns-clause-text : goal.returns-clause-text
returns-clause-text c = c.in_ok-put_body.ensures.text [] [] c.in_ok-bytes.ensures.items

pub returns-clause-size : goal.returns-clause-size
returns-clause-size c = ap length (c.in_ok-put_body.ensures.text [] [] c.in_ok-bytes.ensures.items) ∙ length-body c.args.self.now c.in_ok-put_body.ensures.typed
