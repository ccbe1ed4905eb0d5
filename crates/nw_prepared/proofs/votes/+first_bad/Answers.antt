use Rattle.std.proofs.Common.{List, subst}
use Rattle.std.specs.Prelude.{MatchOption, All}
use Rattle.nw_codec.specs.declared.certificate.Seal.{Seal}
use Rattle.nw_model.specs.Checks.{IsSealFor}
use Rattle.nw_check.specs.Seals.{IsFirstBad}
use Rattle.nw_curve.proofs.Inverses.{one-has_inverse}
use Rattle.nw_ed25519.specs.Accepts.{accepts}
use Rattle.nw_prepared.proofs.FirstBad.{in_front, then_later, rest_is}
use Rattle.nw_prepared.proofs.votes.+first_bad.Goals as goal

pub verdict_on-requires : goal.verdict_on-requires
verdict_on-requires t c = one-has_inverse c.one.result c.one.ensures

pub verdict_on-front-requires : goal.verdict_on-front-requires
verdict_on-front-requires t c = one-has_inverse c.one-2.result c.one-2.ensures

pub returns-in-Some : goal.returns-in-Some
returns-in-Some t c =
    in_front (IsSealFor accepts c.args.committee.now c.args.text.now) 16 c.args.votes.now c.in-Some.signer (rw c.in-Some.is at c.verdict_on-front.ensures.bad)

pub returns-in-None : goal.returns-in-None
returns-in-None t c =
    let good = IsSealFor accepts c.args.committee.now c.args.text.now in
    let votes = c.args.votes.now in
    then_later good 16 votes c.first_bad.result (rw c.in-None.is at c.verdict_on-front.ensures.bad)
    (subst (λ (rest : List Seal). MatchOption c.first_bad.result (All good rest) (IsFirstBad good rest)) (rest_is votes 16) c.first_bad.ensures)
