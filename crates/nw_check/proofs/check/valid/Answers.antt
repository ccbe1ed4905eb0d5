use Rattle.nw_check.proofs.Words.{◌≡◌, ◌∙◌, true, false, sym}
use Rattle.nw_model.specs.Step.{is_digest}
use Rattle.nw_model.proofs.Sames.{same_digest_decides}
use Rattle.nw_check.proofs.Broken.{none-valid}
use Rattle.nw_check.proofs.check.valid.Goals as goal

pub returns-then-eq : goal.returns-then-eq
returns-then-eq g c =
    let answer = none-valid g.S.Scheme.accepts c.args.committee.now c.args.certificate.now c.cert_fault.result c.is_none.result c.cert_fault.ensures c.is_none.ensures in
    let same = (same_digest_decides c.args.certificate.now.digest c.args.digest).0 (sym c.eq.ensures ∙ c.if-eq.true) in
    (λ h. (answer.0 h, same), λ v. answer.1 v.0)

pub returns-else-eq : goal.returns-else-eq
returns-else-eq g c =
    let differ : is_digest c.args.certificate.now.digest c.args.digest ≡ false = sym c.eq.ensures ∙ c.if-eq.false in
    (λ h. absurd cc, λ v. let same : is_digest c.args.certificate.now.digest c.args.digest ≡ true = (same_digest_decides c.args.certificate.now.digest c.args.digest).1 v.1 in absurd cc)
