use Rattle.std.proofs.Common.{ap, inr, rules, sym, ◌∙◌}
use Rattle.nw_c.proofs.Kept.{reads}
use Rattle.nw_c.proofs.answers.nw_answer_block.Goals as goal

pub returns-in-Ok-clause-code : goal.returns-in-Ok-clause-code
returns-in-Ok-clause-code c = inr (search rules, inr (search rules, inr (reads _ c.in-Answer.done c.in-Some-default.block.now (ap (λ h. h.value) (sym c.is_open.ensures.same) ∙ sym c.lend.ensures.value ∙ c.in-Answer.is) c.in-Some-default.ensures.found.0, search rules)))

pub returns-in-Err-clause-code : goal.returns-in-Err-clause-code
returns-in-Err-clause-code c = inr (search rules, inr (search rules, inr (reads _ c.in-Answer.done c.in-Some-default.block.now (ap (λ h. h.value) (sym c.is_open.ensures.same) ∙ sym c.lend.ensures.value ∙ c.in-Answer.is) c.in-Some-default.ensures.found.0, search rules)))
