use Rattle.nw_shared_store.proofs.Words.{List, ◌∷◌, sym, subst}
use Rattle.nw_shared_store.specs.Session.{SessionView}
use Rattle.nw_shared_store.specs.Settlement.{StillKnow}
use Rattle.nw_shared_store.proofs.Parts.{still_same}
use Rattle.nw_shared_store.proofs.settlement.+compare.Goals as goal

pub returns-in_err-compare_one-in-Some-clause-knew : goal.returns-in_err-compare_one-in-Some-clause-knew
returns-in_err-compare_one-in-Some-clause-knew g t c =
    subst (λ (olds : List SessionView). StillKnow olds (c.compare_one.new.session ∷ c.in-Some.rest.now)) (sym c.in-Some.ensures.cases.0) (c.compare_one.ensures.knew, still_same c.in-Some.rest.now)
