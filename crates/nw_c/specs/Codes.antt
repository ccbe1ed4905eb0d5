-- The codes of refusals, and the order in which they come.
use Rattle.std.specs.Prelude.{◌≡◌, ◌⊎◌, ℤ, List, [], ◌∷◌}
use Rattle.nw_book.specs.declared.error.NoStep.{NoStep}
use Rattle.nw_book.specs.declared.error.NoStep.TheVariants as no_step
use Rattle.nw_check.specs.declared.fault.GatherFault.{GatherFault}
use Rattle.nw_check.specs.declared.fault.GatherFault.TheVariants as gather
use Rattle.nw_c.specs.declared.codes.TheConstants.{BAD_ROUND, BUSY, CLOSED, DONE, ENDED, NO_MEMORY, OUT_OF_TURN, OTHER_COMMITTEE, HISTORY_FULL, NO_MEMBER, OTHER_BLOCK, OTHER_KIND, REPEATED, BAD_SIGNATURE}

-- it is one of these codes
abbrev pub IsOneOf : List ℤ → ℤ → Type 0
IsOneOf [] code = ⊥
IsOneOf (c ∷ cs) code = (code ≡ c) ⊎ IsOneOf cs code

-- each condition has a code. The code is that of the first condition that is not met; if all are met, it is one of the others
abbrev pub IsFirstUnmet : List (ℤ × Type 0) → List ℤ → ℤ → Type 0
IsFirstUnmet [] others code = IsOneOf others code
IsFirstUnmet (c ∷ cs) others code = ((code ≡ c.0) × (c.1 → ⊥)) ⊎ (c.1 × IsFirstUnmet cs others code)

-- the codes of a session's call, once its handles and its round are right
abbrev pub call_codes : List ℤ
call_codes = DONE ∷ BUSY ∷ ENDED ∷ OTHER_COMMITTEE ∷ HISTORY_FULL ∷ NO_MEMORY ∷ []

-- the codes of a session's look at the history, once its handles and its round are right
abbrev pub look_codes : List ℤ
look_codes = DONE ∷ BUSY ∷ ENDED ∷ NO_MEMORY ∷ []

-- the codes of a session's call that does not get the lock, and so leaves the session as it was
abbrev pub early_codes : List ℤ
early_codes = CLOSED ∷ OTHER_KIND ∷ BAD_ROUND ∷ BUSY ∷ []

-- the code of a step that is refused for this reason
abbrev pub step_code : NoStep → ℤ
step_code no_step.OutOfTurn = OUT_OF_TURN
step_code no_step.OtherCommittee = OTHER_COMMITTEE
step_code no_step.HistoryFull = HISTORY_FULL
step_code no_step.NoMemory = NO_MEMORY

-- the code of a vote that is refused for this reason
abbrev pub gather_code : GatherFault → ℤ
gather_code gather.OtherBlock = OTHER_BLOCK
gather_code gather.Repeated = REPEATED
gather_code gather.Signer = NO_MEMBER
gather_code gather.Signature = BAD_SIGNATURE
gather_code gather.NoMemory = NO_MEMORY
