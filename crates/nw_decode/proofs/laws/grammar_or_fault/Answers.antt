use Rattle.nw_decode.proofs.Words.{inl, inr}
use Rattle.nw_decode.specs.Faults.{AtTag}
use Rattle.nw_decode.proofs.Decided.{decided}
use Rattle.nw_decode.proofs.Fronts.{not_both, one_fault}
use Rattle.nw_decode.proofs.WholeTexts.{whole_is_spelled}
use Rattle.nw_decode.proofs.Written.{spelled_is_whole}
use Rattle.nw_decode.proofs.laws.grammar_or_fault.Goals as goal

pub returns-clause-either : goal.returns-clause-either
returns-clause-either c text bytes =
    elim (decided AtTag text) [
      | inl whole ↦ inl (whole_is_spelled text bytes whole)
      | inr fault ↦ inr fault
    ]

pub returns-clause-not_both : goal.returns-clause-not_both
returns-clause-not_both c text e spelled fault = not_both AtTag text e (spelled_is_whole text spelled) fault

pub returns-clause-one_fault : goal.returns-clause-one_fault
returns-clause-one_fault c text d e p q = one_fault AtTag text d e p q
