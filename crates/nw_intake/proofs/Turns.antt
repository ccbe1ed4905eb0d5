-- The workers' turns.
use Rattle.std.proofs.Common.{◌≡◌, ◌≢◌, ℕ, ◌+◌, ◌%◌, ◌<◌, ◌≤◌, List, [], ◌∷◌, ◌++◌, length, drop, if◌then◌else◌, slice_index_or, sym, ◌∙◌, ap, subst, eq-eqb, append_assoc, append-nil}
use Rattle.std.specs.List.{AllZip}
use Rattle.std.proofs.lemmas.List.{drop_more}
use Rattle.std.proofs.lemmas.Bool.{ne_eqb}
use Rattle.std.proofs.Math.ListN.{drop_of_length-le}
use Rattle.nw_intake.specs.Answers.{turns_of}

-- the first item belongs to the worker
pub own_turn : {X : Type 0} (worker workers number : ℕ) (x : X) (xs : List X) → number % workers ≡ worker → turns_of worker workers number (x ∷ xs) ≡ x ∷ turns_of worker workers (number + 1) xs
own_turn worker workers number x xs is =
    ap (λ b. if b then x ∷ turns_of worker workers (number + 1) xs else turns_of worker workers (number + 1) xs) (eq-eqb (number % workers) worker is)

-- the first item belongs to another worker
pub others_turn : {X : Type 0} (worker workers number : ℕ) (x : X) (xs : List X) → number % workers ≢ worker → turns_of worker workers number (x ∷ xs) ≡ turns_of worker workers (number + 1) xs
others_turn worker workers number x xs is =
    ap (λ b. if b then x ∷ turns_of worker workers (number + 1) xs else turns_of worker workers (number + 1) xs) (ne_eqb (number % workers) worker is)

-- the items from a place on begin with the item at the place
pub item_left : {X : Type 0} (items : List X) (place : ℕ) (x : X) → place < length items → x ≡ slice_index_or items place x → drop place items ≡ x ∷ drop (place + 1) items
item_left items place x within is = drop_more items place x within ∙ ap (λ y. y ∷ drop (place + 1) items) (sym is)

module _ {X Y : Type 0} (R : X → Y → Type 0) (worker workers : ℕ) (items : List X) where
  -- these answers, followed by any answers to the worker's turns from the place on, are answers to all turns of the worker
  abbrev pub IsAnsweredSoFar : ℕ → List Y → Type 0
  IsAnsweredSoFar place answers = (rest : List Y) → AllZip R (turns_of worker workers place (drop place items)) rest → AllZip R (turns_of worker workers 0 items) (answers ++ rest)

  -- the item at the place belongs to the worker, and was answered
  pub took_turn : (place : ℕ) (x : X) (answers : List Y) (y : Y) → place < length items → x ≡ slice_index_or items place x → place % workers ≡ worker → R x y → IsAnsweredSoFar place answers → IsAnsweredSoFar (place + 1) (answers ++ y ∷ [])
  took_turn place x answers y within is turn r on rest fits =
      let left = ap (turns_of worker workers place) (item_left items place x within is) ∙ own_turn worker workers place x (drop (place + 1) items) turn in
      subst (AllZip R (turns_of worker workers 0 items)) (sym (append_assoc answers (y ∷ []) rest)) (on (y ∷ rest) (subst (λ xs. AllZip R xs (y ∷ rest)) (sym left) (r, fits)))

  -- the item at the place belongs to another worker
  pub skipped_turn : (place : ℕ) (x : X) (answers : List Y) → place < length items → x ≡ slice_index_or items place x → place % workers ≢ worker → IsAnsweredSoFar place answers → IsAnsweredSoFar (place + 1) answers
  skipped_turn place x answers within is turn on rest fits =
      let left = ap (turns_of worker workers place) (item_left items place x within is) ∙ others_turn worker workers place x (drop (place + 1) items) turn in
      on rest (subst (λ xs. AllZip R xs rest) (sym left) fits)

  -- no item is left
  pub all_turns : (place : ℕ) (answers : List Y) → length items ≤ place → IsAnsweredSoFar place answers → AllZip R (turns_of worker workers 0 items) answers
  all_turns place answers past on =
      subst (AllZip R (turns_of worker workers 0 items)) (append-nil answers)
      (on [] (subst (λ xs. AllZip R (turns_of worker workers place xs) []) (sym (drop_of_length-le items past)) tt))
