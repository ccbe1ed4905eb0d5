use Rattle.nw_waiting.proofs.Words.{sym, subst}
use Rattle.nw_waiting.specs.Pairs.{AreWanted}
use Rattle.nw_waiting.proofs.Parted.{unmet_wanted}
use Rattle.nw_waiting.proofs.parents.MissingParents.count.Goals as goal

pub returns : goal.returns
returns g c =
    (c.self.inside.unmet.keys, subst (λ s. AreWanted s.unmet c.self.inside.unmet.keys) c.self.view_is (unmet_wanted c.self.inside.lacking c.self.inside.unmet.keys c.self.invariant c.len.ensures.ordered), sym c.len.ensures.len)
