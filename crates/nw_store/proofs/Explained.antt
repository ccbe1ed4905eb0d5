-- What was known under the lock still holds after its release: first for an answer, then for a refusal.
use Rattle.nw_store.proofs.Words.{List, Result, Ok, Err, IfOk, Meaning, Call, Reply, Story, Origin, Journal, IsHistoryOf, next_in_journal, IsAnswered}
use Rattle.std.proofs.Common.{Option}
use Rattle.std.specs.Result.{IfErr}
use Rattle.nw_committee.specs.declared.member.Member.{Member}
use Rattle.nw_book.specs.Turn.{IsRefusal}
use Rattle.nw_book.specs.declared.error.NoStep.{NoStep}
use Rattle.nw_book.specs.Answered.{IsExplained, TakesNoStep}

pub explained : {A E : Type 0} (accepts : Meaning) (origin : Origin) (h : Story) (old new : Journal) (asked : Call) (reply_of : A → Reply) (front_of : A → Story) (r : Result A E)
    → IsHistoryOf accepts origin h → IfOk r (λ a. IsAnswered accepts h old new asked (reply_of a) (front_of a)) → IfOk r (λ a. IsExplained accepts origin old new asked (reply_of a) (front_of a))
explained accepts origin h old new asked reply_of front_of (Ok a) of is = (h, of, is)
explained accepts origin h old new asked reply_of front_of (Err e) of is = tt

pub unanswered : {A : Type 0} (accepts : Meaning) (origin : Origin) (h : Story) (old : Journal) (under : Option (List Member)) (r : Result A NoStep)
    → IsHistoryOf accepts origin h → IfErr r (IsRefusal h old.id (next_in_journal old) under) → IfErr r (TakesNoStep accepts origin old under)
unanswered accepts origin h old under (Ok a) of is = tt
unanswered accepts origin h old under (Err e) of is = (h, of, is)
