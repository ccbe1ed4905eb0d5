use Rattle.nw_model.proofs.Words.{◌≡◌, ◌∙◌, rules, sym}
use Rattle.nw_model.specs.Step.{is_digest}
use Rattle.nw_model.proofs.Sames.{same_digest_decides}
use Rattle.nw_model.proofs.call.is_same_digest.Goals as goal

pub returns : goal.returns
returns c =
    let answer : c.eq.result ≡ is_digest c.args.one.now c.args.other.now = search rules in
    let decides = same_digest_decides c.args.one.now c.args.other.now in
    (λ same. decides.0 (sym answer ∙ same), λ equal. answer ∙ decides.1 equal)
