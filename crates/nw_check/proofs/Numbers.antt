-- The numbers of listed values, one by one.
use Rattle.nw_check.proofs.Words.{◌≡◌, ◌∙◌, ℕ, ◌+◌, ◌<◌, ◌≤◌, List, ◌∷◌, ◌++◌, length, map, take, drop, get_or, sym, ap, subst, All, take-append-drop, All-more}
use Rattle.std.proofs.Common.{add-one, drop-cons}
use Rattle.nw_committee.proofs.Listed.{number_at, number-within, whole_front}

module _ {X : Type 0} (f : X → ℕ) (xs : List X) (i : ℕ) (x : X) (h : i < length xs) (is : x ≡ get_or xs i x) where
  pub all_numbers-more : (P : ℕ → Type 0) → All P (take i (map f xs)) → P (f x) → All P (take (i + 1) (map f xs))
  all_numbers-more P before here = All-more P (map f xs) i 0 (number-within f xs i x h is) before (subst P (sym (number_at f xs i x h is)) here)

  pub all_numbers-not : (P : ℕ → Type 0) → (P (f x) → ⊥) → All P (map f xs) → ⊥
  all_numbers-not P bad all = bad (subst P (number_at f xs i x h is) (all i 0 (number-within f xs i x h is)))

-- if a place is at or past the end, a property of all elements before it is a property of all elements
pub all_front : (P : ℕ → Type 0) {X : Type 0} (f : X → ℕ) (xs : List X) (i : ℕ) → length xs ≤ i → All P (take i (map f xs)) → All P (map f xs)
all_front P f xs i high all = subst (All P) (whole_front f xs i high) all

-- a list is the elements before a place, the element at the place, and the elements after it
pub split_at : {X : Type 0} (xs : List X) (i : ℕ) (d : X) → i < length xs → xs ≡ take i xs ++ get_or xs i d ∷ drop (i + 1) xs
split_at xs i d h =
    let rest : drop i xs ≡ get_or xs i d ∷ drop (i + 1) xs = rw (add-one) (drop-cons xs i d h) in
    sym (take-append-drop i xs) ∙ ap (λ back. take i xs ++ back) rest
