use Rattle.std.proofs.Common.{ap, inr, rules, sym, ◌∙◌, ◌≡◌}
use Rattle.nw_c.proofs.Kept.{handed}
use Rattle.nw_check.specs.declared.message.Checked.TheVariants as checked
use Rattle.nw_c.specs.Kinds.{HoldsCheckedCert}
use Rattle.nw_c.specs.declared.content.Content.TheVariants as kind
use Rattle.nw_c.proofs.sessions.nw_session_hand_in.Goals as goal

pub returns-in-Checked-Cert-clause-code : goal.returns-in-Checked-Cert-clause-code
returns-in-Checked-Cert-clause-code c =
    let same : c.args.checked.now.value ≡ c.lend-content.result.now = ap (λ h. h.value) (sym c.is_open.ensures.same) ∙ sym c.lend-content.ensures.value in
    let text : c.args.checked.now.value ≡ kind.Checked (checked.Cert c.in-Checked-Cert.certificate) = first_of (search rules, cc, grind rules) in
    let cert : HoldsCheckedCert c.args.checked.now.value = (c.in-Checked-Cert.certificate, text) in
    let which = handed c.args.session.now c.args.checked.now c.args.answer.now c.call-in-Checked-Cert.result (search rules) (inr cert) c.call-in-Checked-Cert.ensures.code in search rules
