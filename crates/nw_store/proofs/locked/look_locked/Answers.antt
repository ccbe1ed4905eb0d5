use Rattle.nw_store.proofs.locked.look_locked.Goals as goal

pub returns-clause-seen : goal.returns-clause-seen
returns-clause-seen g c = (c.locked.inside.book, record { starts = c.locked.invariant.2; legal = c.locked.invariant.1.legal }, c.look.ensures)
