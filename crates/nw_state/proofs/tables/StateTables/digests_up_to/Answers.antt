use Rattle.nw_state.proofs.HeldRaised.{gathered}
use Rattle.nw_state.proofs.tables.StateTables.digests_up_to.Goals as goal
use Rattle.nw_state.proofs.Words.{IfOk-weaker}

pub returns-clause-digests : goal.returns-clause-digests
returns-clause-digests c =
    rw (← c.self.view_is)
    (IfOk-weaker c.digests_up_to.result _ _ (λ found are. gathered c.self.inside.blocks c.self.inside.certificates c.self.inside.slots c.self.inside.floor c.self.invariant c.args.round found.items are) c.digests_up_to.ensures)

pub returns-clause-sound : goal.returns-clause-sound
returns-clause-sound c = rw (← c.self.view_is) c.self.invariant.kept.sound
