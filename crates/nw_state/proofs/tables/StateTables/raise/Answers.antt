use Rattle.nw_state.proofs.HeldRaised.{held_raised, same_raised, fewer_raised}
use Rattle.nw_state.proofs.tables.StateTables.raise.Goals as goal

pub invariant_of-self : goal.invariant_of-self
invariant_of-self c =
    held_raised c.self.inside.blocks c.drop_below.new.entries c.self.inside.certificates c.drop_below-2.new.entries c.self.inside.slots c.drop_below-3.new.self c.self.inside.floor c.args.round c.self.invariant
    c.args.digests.now (rw (← c.self.view_is) at c.requires) c.drop_below.ensures c.drop_below-2.ensures c.drop_below-3.ensures.firsts c.drop_below-3.ensures.certified

pub returns-clause-state : goal.returns-clause-state
returns-clause-state c =
    rw (← c.self.view_is)
    (same_raised c.self.inside.blocks c.drop_below.new.entries c.self.inside.certificates c.drop_below-2.new.entries c.self.inside.slots c.drop_below-3.new.self c.self.inside.floor c.args.round c.self.invariant
    c.args.digests.now (rw (← c.self.view_is) at c.requires) c.drop_below.ensures c.drop_below-2.ensures c.drop_below-3.ensures.firsts c.drop_below-3.ensures.certified)

pub returns-clause-fewer : goal.returns-clause-fewer
returns-clause-fewer c =
    rw (← c.self.view_is)
    (fewer_raised c.self.inside.blocks c.drop_below.new.entries c.self.inside.certificates c.drop_below-2.new.entries c.self.inside.slots c.drop_below-3.new.self c.self.inside.floor c.args.round c.self.invariant
    c.args.digests.now (rw (← c.self.view_is) at c.requires) c.drop_below.ensures c.drop_below-2.ensures c.drop_below-3.ensures.firsts c.drop_below-3.ensures.certified)
