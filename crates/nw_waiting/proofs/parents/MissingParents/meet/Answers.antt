use Rattle.nw_waiting.proofs.Words.{◌∙◌, ap, refl}
use Rattle.nw_waiting.specs.Pairs.{without_wanted}
use Rattle.nw_waiting.proofs.Parted.{held_taken, taken}
use Rattle.nw_waiting.proofs.parents.MissingParents.meet.Goals as goal

pub invariant_of-self : goal.invariant_of-self
invariant_of-self g c =
    held_taken c.self.inside.lacking c.self.inside.lacking c.self.inside.unmet.keys c.remove.new.self.keys c.args.wanted.now (λ q. c.remove.ensures.updates.0 q) (λ w h e. refl) c.self.invariant

pub returns-clause-unmet : goal.returns-clause-unmet
returns-clause-unmet g c =
    taken c.self.inside.lacking c.self.inside.lacking c.self.inside.unmet.keys c.remove.new.self.keys c.args.wanted.now (λ q. c.remove.ensures.updates.0 q) (λ w h e. refl)
    ∙ ap (λ s. without_wanted s.unmet c.args.wanted.now) c.self.view_is
