use Rattle.nw_plain.proofs.Words.{◌∙◌}
use Rattle.nw_plain.proofs.Dropped.{dropped_count}
use Rattle.nw_plain.proofs.plain.Plain.blocks_below.Goals as goal

pub returns : goal.returns
returns c = rw (← c.self.view_is) (c.count_below.ensures.below ∙ dropped_count (λ b. b.round) c.args.round c.self.inside.blocks.entries c.count_below.ensures.ordered)
