use Rattle.nw_state.proofs.Words.{IfOk-weaker}
use Rattle.nw_state.proofs.Slotted.{listed_authors}
use Rattle.nw_state.proofs.tables.StateTables.authors.Goals as goal

pub returns : goal.returns
returns c =
    rw (← c.self.view_is)
    (IfOk-weaker c.authors.result _ _ (λ found are. listed_authors c.self.inside.blocks c.self.inside.certificates c.self.inside.slots c.self.inside.floor c.self.invariant c.args.round found.items are) c.authors.ensures)
