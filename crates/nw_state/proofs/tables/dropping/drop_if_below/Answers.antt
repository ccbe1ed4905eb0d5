use Rattle.nw_state.proofs.Dropped.{drops_one}
use Rattle.nw_state.proofs.tables.dropping.drop_if_below.Goals as goal

pub returns-then-is_below : goal.returns-then-is_below
returns-then-is_below g c =
    drops_one g.V.InRound.round_of c.args.round c.args.digest.now c.args.entries.now c.remove.new.self c.requires (c.is_below.ensures.0 c.if-is_below.true) c.remove.ensures.entries
