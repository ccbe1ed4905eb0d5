-- The results of workers, and the faults of `check_all`.
use Rattle.std.specs.Prelude.{◌≡◌, ℕ, ◌<◌, ◌≤◌, Bool, List, Contains, Result, Ok, Err, length, slice_index_or, Vec}
use Rattle.std.specs.List.{AllZip}
use Rattle.std.specs.declared.alloc.Global.{Global}
use Rattle.std.specs.declared.collections.VecDeque.{VecDeque}
use Rattle.nw_committee.specs.declared.member.Member.{Member}
use Rattle.nw_sig.specs.Signed.{Meaning}
use Rattle.nw_check.specs.declared.message.Checked.{Checked}
use Rattle.nw_intake.specs.Answers.{AnswersText, turns_of}
use Rattle.nw_intake.specs.Faults.{IsWorkerCount, IsShareFault}
use Rattle.nw_intake.specs.declared.point.Point.{Point}
use Rattle.nw_intake.specs.declared.fault.ShareFault.{ShareFault}
use Rattle.nw_intake.specs.declared.fault.ShareFault.TheVariants as share
use Rattle.nw_intake.specs.declared.fault.IntakeFault.{IntakeFault}
use Rattle.nw_intake.specs.declared.fault.IntakeFault.TheVariants as fault

-- the worker may have this result: the answers to the texts of its turns, or a fault that may stop it
abbrev pub IsShareResult : {S A B : Type 0} → Meaning → List Member → List (Vec ℕ A) → (Point → Bool → Type 0) → ℕ → ℕ → Result (VecDeque (Checked S) B) ShareFault → Type 0
IsShareResult accepts members texts says worker workers (Ok answers) = AllZip (AnswersText accepts members) (turns_of worker workers 0 texts) answers.items
IsShareResult accepts members texts says worker workers (Err fault) = IsShareFault says (length texts) fault

-- the workers may have these results, in the order of their numbers; workers whose threads were not started have none
abbrev pub AreShareResults : {S A B : Type 0} → Meaning → List Member → List (Vec ℕ A) → (Point → Bool → Type 0) → ℕ → List (Result (VecDeque (Checked S) B) ShareFault) → Type 0
AreShareResults {S} {A} {B} accepts members texts says workers results =
    (length results ≤ workers)
    × ((worker : ℕ) (none : Result (VecDeque (Checked S) B) ShareFault) → worker < length results → IsShareResult accepts members texts says worker workers (slice_index_or results worker none))

-- no worker ran out of memory
abbrev pub HadMemory : {X : Type 0} → List (Result X ShareFault) → Type 0
HadMemory results = Contains results (Err share.NoMemory) → ⊥

-- results of this many workers may lead to this fault: `NoMemory` comes first, then `Spawn` if there are too few results, then `GateShut`
abbrev pub IsJointFault : {X : Type 0} → ℕ → List (Result X ShareFault) → IntakeFault → Type 0
IsJointFault workers results fault.BadWorkers = ⊥
IsJointFault workers results fault.NoMemory = Unit {0}
IsJointFault workers results fault.Spawn = HadMemory results × (length results < workers)
IsJointFault workers results fault.GateShut = HadMemory results × (length results ≡ workers) × Contains results (Err share.GateShut)

-- a run of this many workers may fail with this fault: the workers may have results that lead to it
abbrev pub RunFailsWith : (S : Type 0) → {A : Type 0} → Meaning → List Member → List (Vec ℕ A) → (Point → Bool → Type 0) → ℕ → IntakeFault → Type 0
RunFailsWith S accepts members texts says workers why = (results : List (Result (VecDeque (Checked S) Global) ShareFault)) × AreShareResults accepts members texts says workers results × IsJointFault workers results why

-- `check_all` may fail with this fault: `BadWorkers` if the number of workers is out of range, and otherwise a fault of a run
abbrev pub IsIntakeFault : (S : Type 0) → {A : Type 0} → Meaning → List Member → List (Vec ℕ A) → (Point → Bool → Type 0) → ℕ → IntakeFault → Type 0
IsIntakeFault S accepts members texts says workers fault.BadWorkers = IsWorkerCount workers → ⊥
IsIntakeFault S accepts members texts says workers fault.NoMemory = IsWorkerCount workers × RunFailsWith S accepts members texts says workers fault.NoMemory
IsIntakeFault S accepts members texts says workers fault.Spawn = IsWorkerCount workers × RunFailsWith S accepts members texts says workers fault.Spawn
IsIntakeFault S accepts members texts says workers fault.GateShut = IsWorkerCount workers × RunFailsWith S accepts members texts says workers fault.GateShut
