use Rattle.nw_generation.proofs.Words.{sym, subst}
use Rattle.nw_generation.specs.Slots.{AreSlotsOf}
use Rattle.nw_generation.proofs.index.Index.get.Goals as goal

pub returns : goal.returns
returns c = sym (c.in-Some-get.ensures c.args.self.now (subst (AreSlotsOf c.self.inside.slots.slots.items) c.self.view_is c.self.invariant.2))
