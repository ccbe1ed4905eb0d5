use Rattle.nw_generation.proofs.Words.{◌∙◌, sym}
use Rattle.nw_generation.proofs.Searches.{is_tie}
use Rattle.nw_generation.proofs.index.order.Goals as goal

pub returns-then-eq : goal.returns-then-eq
returns-then-eq c =
    is_tie c.args.digest.now c.args.entry.now.0 (sym c.if-eq.true ∙ c.eq.ensures)
