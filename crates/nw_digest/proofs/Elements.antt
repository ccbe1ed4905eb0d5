-- The elements of a list.
use Rattle.std.proofs.Common.{◌≡◌, ◌⊎◌, ◌↔◌, zero, suc, Bool, true, false, cond, List, [], ◌∷◌, filter, map, refl, sym, subst, arith, inl, inr}
use Rattle.std.specs.Prelude.{Contains}
use Rattle.std.specs.declared.cmp.Ordering.{Ordering}
use Rattle.std.specs.List.Sorted.{IsStrictlySortedBy}

pub contains_first : {X : Type 0} (x : X) (xs : List X) → Contains (x ∷ xs) x
contains_first x xs = (0, omega arith, refl)

pub contains_later : {X : Type 0} (y : X) (xs : List X) (x : X) → Contains xs x → Contains (y ∷ xs) x
contains_later y xs x (k, lt, at) = (suc k, omega arith, at)

pub contains_cases : {X : Type 0} (y : X) (xs : List X) (x : X) → Contains (y ∷ xs) x → (y ≡ x) ⊎ Contains xs x
contains_cases y xs x (zero, lt, at) = inl at
contains_cases y xs x (suc k, lt, at) = inr (k, omega arith, at)

pub contains_none : {X : Type 0} (x : X) → Contains [] x → ⊥
contains_none x (k, lt, at) = omega arith

-- no elements are in every order
pub ordered_none : {X : Type 0} (R : X → X → Ordering) → IsStrictlySortedBy R []
unfolding IsStrictlySortedBy
ordered_none R = tt

-- two functions that agree on the elements of a list map it to the same list
pub same_map : {X Y : Type 0} (f g : X → Y) (xs : List X) → ((x : X) → Contains xs x → f x ≡ g x) → map f xs ≡ map g xs
same_map f g [] agree = refl
same_map f g (x ∷ xs) agree =
    let first : f x ≡ g x = agree x (contains_first x xs) in
    let rest : map f xs ≡ map g xs = same_map f g xs (λ z among. agree z (contains_later x xs z among)) in
    cc

-- a filter keeps exactly the elements that pass
pub contains_filter : {X : Type 0} (test : X → Bool) (xs : List X) (x : X) → Contains (filter test xs) x ↔ (Contains xs x × (test x ≡ true))
contains_filter test [] x = (λ among. absurd (contains_none x among), λ both. absurd (contains_none x both.0))
contains_filter test (y ∷ ys) x = by (test y) refl (contains_filter test ys x)
  where
    by : (t : Bool) → test y ≡ t → Contains (filter test ys) x ↔ (Contains ys x × (test x ≡ true)) → Contains (cond t (y ∷ filter test ys) (filter test ys)) x ↔ (Contains (y ∷ ys) x × (test x ≡ true))
    by true is rest = (
      λ among. elim (contains_cases y (filter test ys) x among) [
        | inl same ↦ (subst (λ z. Contains (y ∷ ys) z) same (contains_first y ys), subst (λ z. test z ≡ true) same is)
        | inr later ↦ let both = rest.0 later in (contains_later y ys x both.0, both.1)
      ],
      λ both. elim (contains_cases y ys x both.0) [
        | inl same ↦ subst (λ z. Contains (y ∷ filter test ys) z) same (contains_first y (filter test ys))
        | inr later ↦ contains_later y (filter test ys) x (rest.1 (later, both.1))
      ],
    )
    by false is rest = (
      λ among. let both = rest.0 among in (contains_later y ys x both.0, both.1),
      λ both. elim (contains_cases y ys x both.0) [
        | inl same ↦ let wrong : test y ≡ true = subst (λ z. test z ≡ true) (sym same) both.1 in absurd cc
        | inr later ↦ rest.1 (later, both.1)
      ],
    )
