-- Strictly ascending numbers, one after another.
use Rattle.nw_decode.proofs.Words.{◌≡◌, ℕ, zero, suc, ◌+◌, ◌<◌, true, List, [], ◌∷◌, get_or, Option, Some, None, refl, arith, lt-ltb, ltb-true}
use Rattle.std.specs.List.Sorted.{IsStrictlyIncreasing}
use Rattle.nw_decode.specs.Faults.{comes_after}

-- the number is greater than the one before, if there is one
abbrev pub IsAfter : Option ℕ → ℕ → Type 0
IsAfter None x = Unit {0}
IsAfter (Some b) x = b < x

abbrev pub Ascends : Option ℕ → List ℕ → Type 0
Ascends before [] = Unit {0}
Ascends before (x ∷ xs) = IsAfter before x × Ascends (Some x) xs

increasing_tail : (x : ℕ) (xs : List ℕ) → IsStrictlyIncreasing (x ∷ xs) → IsStrictlyIncreasing xs
increasing_tail x xs h k lt =
    let at : get_or xs k 0 < get_or (x ∷ xs) (suc k + 1) 0 = h (suc k) (omega arith) in
    let next : suc k + 1 ≡ suc (k + 1) = omega arith in
    rw next at at

ascends_after : (b : ℕ) (xs : List ℕ) → IsStrictlyIncreasing (b ∷ xs) → Ascends (Some b) xs
ascends_after b [] h = tt
ascends_after b (x ∷ xs) h = (h 0 (omega arith), ascends_after x xs (increasing_tail b (x ∷ xs) h))

pub ascends : (xs : List ℕ) → IsStrictlyIncreasing xs → Ascends None xs
ascends [] h = tt
ascends (x ∷ xs) h = (tt, ascends_after x xs h)

pub increasing : (before : Option ℕ) (xs : List ℕ) → Ascends before xs → IsStrictlyIncreasing xs
increasing before [] h k lt = absurd (omega arith)
increasing before (x ∷ []) h k lt = absurd (omega arith)
increasing before (x ∷ y ∷ ys) h zero lt = h.1.0
increasing before (x ∷ y ∷ ys) h (suc k) lt =
    let next : suc k + 1 ≡ suc (k + 1) = omega arith in
    rw next (increasing (Some x) (y ∷ ys) h.1 k (omega arith))

-- the test of a parent's author

pub after_test : (before : Option ℕ) (x : ℕ) → IsAfter before x → comes_after before x ≡ true
after_test None x h = refl
after_test (Some b) x h = lt-ltb b x h

pub after_from_test : (before : Option ℕ) (x : ℕ) → comes_after before x ≡ true → IsAfter before x
after_from_test None x h = tt
after_from_test (Some b) x h = ltb-true b x h
