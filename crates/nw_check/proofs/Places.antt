-- The place of a number among ascending numbers.
use Rattle.nw_check.proofs.Words.{◌≡◌, ◌∙◌, ℕ, ◌+◌, ◌<◌, ◌≤◌, List, [], ◌∷◌, ◌++◌, Option, Some, None, length, take, drop, get_or, refl, sym, arith, Contains, insert, All, take_all}
use Rattle.std.proofs.Common.{zero, suc, ◌-◌, inl, inr}
use Rattle.std.specs.List.{AllByRecursion}
use Rattle.std.specs.List.Sorted.{IsStrictlyIncreasing}
use Rattle.std.proofs.lemmas.Bool.{cases_lt}
use Rattle.std.proofs.lemmas.List.{drop_all, get_or-take, get_or-drop, get_or_default, length-take, length-drop}
use Rattle.std.proofs.lemmas.List.Elements.{recursion_from_All, All-same, All-nil}
use Rattle.std.proofs.lemmas.List.Kept.{AllPairs-from_increasing}
use Rattle.nw_decode.proofs.Ascending.{IsAfter, Ascends, ascends, increasing}
use Rattle.nw_check.specs.Gathering.{IsPlace}

-- ---- how many numbers there are

rises_at : (xs : List ℕ) → IsStrictlyIncreasing xs → (k : ℕ) → k < length xs → k ≤ get_or xs k 0
rises_at xs rising zero h = omega arith
rises_at xs rising (suc k) h =
    let before = rises_at xs rising k (omega arith) in
    let next : k + 1 ≡ suc k = omega arith in
    let step = rising k (omega arith) in
    let up : get_or xs k 0 < get_or xs (suc k) 0 = rw next at step in
    omega (arith, before, up)

few_when : (xs : List ℕ) (n m : ℕ) → length xs ≡ m → IsStrictlyIncreasing xs → All (λ x. x < n) xs → m ≤ n
few_when xs n zero e rising below = omega arith
few_when xs n (suc m) e rising below =
    let low = rises_at xs rising m (omega arith) in
    let high = below m 0 (omega arith) in
    omega (arith, low, high)

-- a list of strictly ascending numbers below n has at most n elements
pub few_below : (xs : List ℕ) (n : ℕ) → IsStrictlyIncreasing xs → All (λ x. x < n) xs → length xs ≤ n
few_below xs n = few_when xs n (length xs) refl

-- ---- places

pub place_here : (xs : List ℕ) (x i : ℕ) → IsStrictlyIncreasing xs → i < length xs → x < get_or xs i 0 → All (λ n. n < x) (take i xs) → IsPlace xs x i
place_here xs x i rising h above below = record {
  within = omega arith;
  below = below;
  above = λ k d lt.
      let len = length-drop i xs in
      let inside : i + k < length xs = omega (arith, len, lt) in
      let at : get_or (drop i xs) k d ≡ get_or xs (i + k) d = get_or-drop i xs k d in
      let same : get_or xs i d ≡ get_or xs i 0 = get_or_default xs i d 0 h in
      elim (cases_lt 0 k) [
        | inl later ↦ let more = AllPairs-from_increasing xs rising i (i + k) d (omega arith) inside in omega (arith, at, same, more)
        | inr none ↦ let here : i + k ≡ i = omega arith in let at_i = rw here at at in omega (arith, at_i, same)
      ];
}

pub place_end : (xs : List ℕ) (x i n : ℕ) → length xs ≡ n → length xs ≤ i → All (λ k. k < x) (take i xs) → IsPlace xs x n
place_end xs x i n size high below = record {
  within = omega arith;
  below = All-same (λ k. k < x) (take n xs) (take i xs) (take_all n xs (omega arith) ∙ sym (take_all i xs high)) below;
  above = All-same (λ k. x < k) (drop n xs) [] (drop_all n xs (omega arith)) (All-nil (λ k. x < k));
}

-- a list does not contain a number that has a place in it
pub place_fresh : (xs : List ℕ) (x p : ℕ) → IsPlace xs x p → Contains xs x → ⊥
place_fresh xs x p place (k, lt, at) =
    elim (cases_lt k p) [
      | inl before ↦
          let len = length-take p xs in
          let low = place.below k x (omega (arith, len)) in
          let same = get_or-take p xs k x before in
          omega (arith, low, same, at)
      | inr later ↦
          let len = length-drop p xs in
          let high = place.above (k - p) x (omega (arith, len)) in
          let same = get_or-drop p xs (k - p) x in
          let there : p + (k - p) ≡ k = omega arith in
          let same_k = rw there at same in
          omega (arith, high, same_k, at)
    ]

rises-insert : (before : Option ℕ) (xs : List ℕ) (p x : ℕ) → Ascends before xs → IsAfter before x → AllByRecursion (λ n. n < x) (take p xs) → AllByRecursion (λ n. x < n) (drop p xs)
    → Ascends before (take p xs ++ x ∷ drop p xs)
rises-insert before [] zero x rising after below above = (after, tt)
rises-insert before (y ∷ ys) zero x rising after below above = (after, (above.0, rising.1))
rises-insert before [] (suc p) x rising after below above = (after, tt)
rises-insert before (y ∷ ys) (suc p) x rising after below above = (rising.0, rises-insert (Some y) ys p x rising.1 below.0 below.1 above)

-- after a number is inserted at its place, the numbers still ascend
pub place-rises : (xs : List ℕ) (x p : ℕ) → IsStrictlyIncreasing xs → IsPlace xs x p → IsStrictlyIncreasing (insert xs p x)
place-rises xs x p rising place =
    increasing None (insert xs p x)
    (rises-insert None xs p x (ascends xs rising) tt (recursion_from_All (λ n. n < x) (take p xs) place.below) (recursion_from_All (λ n. x < n) (drop p xs) place.above))
