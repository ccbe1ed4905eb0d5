-- The answers of many checks, and the workers' turns.
use Rattle.std.specs.Prelude.{◌≡◌, ℕ, ◌+◌, ◌%◌, ◌<◌, ◌==◌, if◌then◌else◌, List, [], ◌∷◌, length, slice_index_or, Vec}
use Rattle.std.specs.declared.collections.VecDeque.{VecDeque}
use Rattle.nw_committee.specs.declared.member.Member.{Member}
use Rattle.nw_sig.specs.Signed.{Meaning}
use Rattle.nw_check.specs.Message.{IsChecked}
use Rattle.nw_check.specs.declared.message.Checked.{Checked}

-- the check of this text may give this answer
abbrev pub AnswersText : {S A : Type 0} → Meaning → List Member → Vec ℕ A → Checked S → Type 0
AnswersText accepts members text answer = IsChecked accepts members text.items answer

-- the items of this worker's turns: item i belongs to worker i % workers, and the first item of the list has the given number
abbrev pub turns_of : {X : Type 0} → ℕ → ℕ → ℕ → List X → List X
turns_of worker workers number [] = []
turns_of worker workers number (x ∷ xs) =
    if number % workers == worker then x ∷ turns_of worker workers (number + 1) xs else turns_of worker workers (number + 1) xs

-- the items were dealt to these shares in turns, and the first item of the list has the given number
abbrev pub IsDealtFrom : {X A : Type 0} → ℕ → List X → List (VecDeque X A) → Type 0
IsDealtFrom {X} {A} number items shares =
    (worker : ℕ) (none : VecDeque X A) → worker < length shares → (slice_index_or shares worker none).items ≡ turns_of worker (length shares) number items

-- there are this many items, and they were dealt to these shares in turns
abbrev pub IsDealt : {X A : Type 0} → List X → ℕ → List (VecDeque X A) → Type 0
IsDealt items count shares = (length items ≡ count) × IsDealtFrom 0 items shares
