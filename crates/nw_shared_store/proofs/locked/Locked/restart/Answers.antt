use Rattle.nw_shared_store.proofs.Stepped.{locked_next}
use Rattle.nw_shared_store.proofs.locked.Locked.restart.Goals as goal

pub invariant_of-self-2 : goal.invariant_of-self-2
invariant_of-self-2 g c =
    locked_next g.S.Scheme.accepts c.self.inside.book c.restart.new.self c.self.inside.run c.self.inside.made _ c.self.invariant c.in_ok-restart.ensures.restarted
