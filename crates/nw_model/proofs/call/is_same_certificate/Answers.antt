use Rattle.nw_model.proofs.Words.{◌≡◌, ◌∙◌, rules, sym}
use Rattle.nw_model.proofs.Sames.{same_certificate_decides, same_certificate}
use Rattle.nw_model.proofs.call.is_same_certificate.Goals as goal

pub returns : goal.returns
returns c =
    let answer : c.eq.result ≡ same_certificate c.args.one.now c.args.other.now = search rules in
    let decides = same_certificate_decides c.args.one.now c.args.other.now in
    (λ same. decides.0 (sym answer ∙ same), λ equal. answer ∙ decides.1 equal)
