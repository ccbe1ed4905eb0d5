use Rattle.nw_state.proofs.Slotted.{newest_round}
use Rattle.nw_state.proofs.tables.StateTables.newest.Goals as goal

pub returns : goal.returns
returns c =
    rw (← c.self.view_is)
    (newest_round c.self.inside.blocks c.self.inside.certificates c.self.inside.slots c.self.inside.floor c.self.invariant c.newest.result c.newest.ensures)
