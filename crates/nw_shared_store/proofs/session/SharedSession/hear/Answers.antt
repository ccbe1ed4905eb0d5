use Rattle.nw_shared_store.proofs.Words.{◌∷◌, [], sym, subst, Contains, Contains-append_left, Journal}
use Rattle.nw_shared_store.proofs.session.SharedSession.hear.Goals as goal

pub returns-clause-heard : goal.returns-clause-heard
returns-clause-heard g c = (c.in_ok-now.now.0, c.in_ok-now.now.1, c.in_ok-now.ensures.present, c.in_ok-now.ensures.knows, c.is_prefix_of.ensures.prefix)

pub returns-clause-knew : goal.returns-clause-knew
returns-clause-knew g c = λ s known.
    subst (λ (j : Journal). Contains j.known s) (sym c.in_ok-now.ensures.knows) (Contains-append_left c.args.self.now.journal.known (c.in_ok-now.now.0 ∷ []) s known)
