use Rattle.nw_shared_store.proofs.Words.{◌≡◌, List, ◌∷◌, length, arith, rules, sym, ap, subst}
use Rattle.std.proofs.Common.{IfErr}
use Rattle.nw_shared_store.specs.Session.{SessionView}
use Rattle.nw_shared_store.specs.Settlement.{AreUnsettled, StillKnow}
use Rattle.nw_shared_store.proofs.Parts.{know_it, settled, of_stores, still_same}
use Rattle.nw_shared_store.proofs.Unsettled.{no_first_of, unsettled_of}
use Rattle.nw_shared_store.proofs.settlement.settle.Goals as goal

pub returns-clause-settled : goal.returns-clause-settled
returns-clause-settled g c =
    let count : length c.args.sessions.now ≡ length (c.first_history.new.session ∷ c.compare.new.sessions) = omega arith in
    settled g.S.Scheme.accepts c.in_ok-history.history (length c.args.sessions.now) (c.first_history.new.session ∷ c.compare.new.sessions)
    (c.in_ok-history.ensures.part, c.in_ok-compare.ensures.parts) c.in_ok-history.ensures.below count

pub returns-clause-of_store : goal.returns-clause-of_store
returns-clause-of_store g c =
    of_stores g.S.Scheme.accepts 0 c.in_ok-history.history (c.first_history.new.session ∷ c.compare.new.sessions) (c.in_ok-history.ensures.part, c.in_ok-compare.ensures.parts)

pub returns-clause-know : goal.returns-clause-know
returns-clause-know g c =
    know_it g.S.Scheme.accepts 0 c.in_ok-history.history (c.first_history.new.session ∷ c.compare.new.sessions) (c.in_ok-history.ensures.part, c.in_ok-compare.ensures.parts)

pub returns-in_err-history-clause-knew : goal.returns-in_err-history-clause-knew
returns-in_err-history-clause-knew g c =
    subst (λ (olds : List SessionView). StillKnow olds (c.first_history.new.session ∷ c.in-Some.others.now)) (sym c.in-Some.ensures.cases.0) (c.first_history.ensures.knew, still_same c.in-Some.others.now)

pub returns-in_err-history-clause-refused : goal.returns-in_err-history-clause-refused
returns-in_err-history-clause-refused g c =
    subst (λ (olds : List SessionView). IfErr c.from_residual.result (AreUnsettled g.S.Scheme.accepts olds (c.first_history.new.session ∷ c.in-Some.others.now))) (sym c.in-Some.ensures.cases.0)
    (no_first_of g.S.Scheme.accepts c.in-Some.first.now c.first_history.new.session c.in-Some.others.now c.in-Some.others.now (length c.args.sessions.now) c.from_residual.result
    (ap (λ (ss : List SessionView). length ss) c.in-Some.ensures.cases.0) (search rules))

pub returns-in_err-compare-clause-refused : goal.returns-in_err-compare-clause-refused
returns-in_err-compare-clause-refused g c =
    subst (λ (olds : List SessionView). IfErr c.from_residual-in_err-compare.result (AreUnsettled g.S.Scheme.accepts olds (c.first_history.new.session ∷ c.compare.new.sessions))) (sym c.in-Some.ensures.cases.0)
    (unsettled_of g.S.Scheme.accepts c.in_ok-history.history c.in-Some.first.now c.first_history.new.session c.in-Some.others.now c.compare.new.sessions (length c.args.sessions.now) c.from_residual-in_err-compare.result
    (ap (λ (ss : List SessionView). length ss) c.in-Some.ensures.cases.0) c.in_ok-history.ensures.found (search rules))
