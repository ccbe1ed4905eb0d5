use Rattle.nw_waiting.proofs.Words.{◌∙◌, ap}
use Rattle.nw_waiting.specs.Pairs.{without_wanted}
use Rattle.nw_waiting.proofs.Parted.{held_satisfied, satisfied}
use Rattle.nw_waiting.proofs.parents.MissingParents.drop_parent.Goals as goal

pub invariant_of-self : goal.invariant_of-self
invariant_of-self g c =
    held_satisfied c.self.inside.lacking c.satisfy.new.self c.self.inside.unmet.keys c.args.wanted.now c.satisfy.ensures.rest (rw (← c.self.view_is) at c.requires) c.self.invariant

pub returns-clause-unmet : goal.returns-clause-unmet
returns-clause-unmet g c =
    satisfied c.self.inside.lacking c.satisfy.new.self c.self.inside.unmet.keys c.args.wanted.now c.satisfy.ensures.rest
    ∙ ap (λ s. without_wanted s.unmet c.args.wanted.now) c.self.view_is
