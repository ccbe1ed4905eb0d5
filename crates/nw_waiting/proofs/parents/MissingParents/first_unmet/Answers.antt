use Rattle.nw_waiting.proofs.Words.{◌∙◌, ap, subst, take}
use Rattle.nw_waiting.specs.Pairs.{AreWanted}
use Rattle.nw_waiting.proofs.Parted.{unmet_wanted}
use Rattle.nw_waiting.proofs.parents.MissingParents.first_unmet.Goals as goal

pub returns : goal.returns
returns g c =
    (c.self.inside.unmet.keys, subst (λ s. AreWanted s.unmet c.self.inside.unmet.keys) c.self.view_is (unmet_wanted c.self.inside.lacking c.self.inside.unmet.keys c.self.invariant c.first_of.ensures.ascending), c.in_ok-first_of.ensures.first ∙ ap (λ n. take n c.self.inside.unmet.keys) c.from.ensures)
