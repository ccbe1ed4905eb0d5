use Rattle.std.proofs.Common.{ap, inr, rules, sym, ◌∙◌}
use Rattle.nw_c.proofs.Kept.{certifies, found_one}
use Rattle.nw_c.proofs.answers.nw_answer_message.Goals as goal

pub returns-in-Some-default-clause-code : goal.returns-in-Some-default-clause-code
returns-in-Some-default-clause-code c = let is = ap (λ h. h.value) (sym c.is_open.ensures.same) ∙ sym c.lend.ensures.value ∙ c.in-Answer.is in
    let found = c.in-Some-default.ensures.found in
    inr (search rules, inr (certifies _ c.in-Answer.done c.in-Some-default.certificate.now is found, inr (found_one _ c.in-Answer.done c.in-Some-default.certificate.now is found, search rules)))
