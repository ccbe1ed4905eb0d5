-- What a search by halves tells of an ascending list, and the list after a value was put at its place.
use Rattle.nw_waiting.proofs.Words.{◌≡◌, ◌∙◌, ℕ, ◌<◌, length, get_or, take, drop, Bool, true, false, ◌||◌, List, [], ◌∷◌, refl, sym, ap, arith, subst, Ordering, IsTotalOrder, eq_by_cmp_equiv, list_any, eq_by_cmp, list_any-append}
use Rattle.std.proofs.Common.{Less, Equal, Greater, ◌≤◌, inl, inr, suc, zero}
use Rattle.std.specs.Cmp.{alike_right}
use Rattle.std.specs.List.{AllByRecursion, HoldsAt, insert}
use Rattle.std.specs.List.Sorted.{IsNonDecreasingBy, IsPartitionPoint, IsStrictlySortedBy}
use Rattle.std.specs.Ordering.{is_eq, ordering_index, ordering_reverse}
use Rattle.std.proofs.lemmas.Bool.{cases_eq, cases_lt}
use Rattle.std.proofs.lemmas.List.{take-append-drop}
use Rattle.std.proofs.lemmas.List.Folds.{list_any_at, list_any_none}
use Rattle.std.proofs.lemmas.Map.Keys.{Less-from_sorted}

pub none : {V : Type 0} (R : V → V → Ordering) → IsStrictlySortedBy R []
unfolding IsStrictlySortedBy
none R = tt

all_of : {V : Type 0} {P Q : V → Type 0} → ((y : V) → P y → Q y) → (xs : List V) → AllByRecursion P xs → AllByRecursion Q xs
all_of to [] all = tt
all_of to (x ∷ xs) all = (to x all.0, all_of to xs all.1)

module _ {V : Type 0} {R : V → V → Ordering} (o : IsTotalOrder R) (v : V) where
  -- the place where v belongs: after all lower values, and before all higher ones
  abbrev pub IsPlace : List V → ℕ → Type 0
  IsPlace xs i = IsPartitionPoint (λ y. R y v ≡ Less) (λ y. R y v ≡ Greater) xs i

  pub found : (xs : List V) (i : ℕ) → i < length xs → HoldsAt (λ y. R y v ≡ Equal) xs i → list_any (eq_by_cmp R v) xs ≡ true
  found xs i below at = list_any_at (eq_by_cmp R v) xs i v below ((eq_by_cmp_equiv o).symm v (get_or xs i v) ∙ ap is_eq (at v))

  most : (r : Ordering) → ordering_index r ≤ 2
  most Less = omega arith
  most Equal = omega arith
  most Greater = omega arith

  step : (x y : V) → R x y ≡ Less → (r : Ordering) → R y v ≡ r → ordering_index (R x v) ≤ ordering_index r
  step x y lower Less is = subst (λ s. ordering_index s ≤ 0) (sym (o.trans x y v lower is)) (omega arith)
  step x y lower Equal is = subst (λ s. ordering_index s ≤ 1) (sym (sym (alike_right o y v x is) ∙ lower)) (omega arith)
  step x y lower Greater is = most (R x v)

  -- a search in an ascending list ends at the value's place
  pub rises : (xs : List V) → IsStrictlySortedBy R xs → IsNonDecreasingBy (λ y. ordering_index (R y v)) xs
  rises xs sorted i j d le below = elim (cases_eq i j) [
    | inl same ↦ subst (λ k. ordering_index (R (get_or xs i d) v) ≤ ordering_index (R (get_or xs k d) v)) same (omega arith)
    | inr other ↦ step (get_or xs i d) (get_or xs j d) (Less-from_sorted R xs i j d sorted (omega (arith, other)) below) (R (get_or xs j d) v) refl
  ]

  pub absent : (xs : List V) (i : ℕ) → IsPlace xs i → list_any (eq_by_cmp R v) xs ≡ false
  absent xs i place = list_any_none (eq_by_cmp R v) xs (λ k d below. (eq_by_cmp_equiv o).symm v (get_or xs k d) ∙ elim (cases_lt k i) [
    | inl lower ↦ ap is_eq (place.0 k d (omega arith) lower)
    | inr higher ↦ ap is_eq (place.1 k d higher below)
  ])

  pub any_put : (q : V → Bool) (xs : List V) (i : ℕ) → list_any q (insert xs i v) ≡ (list_any q xs || q v)
  any_put q xs i =
      list_any-append q (take i xs) (v ∷ drop i xs) ∙ turned (list_any q (take i xs)) (q v) (list_any q (drop i xs))
      ∙ ap (λ b. b || q v) (sym (list_any-append q (take i xs) (drop i xs)) ∙ ap (list_any q) (take-append-drop i xs))
    where
      turned : (a b c : Bool) → (a || (b || c)) ≡ ((a || c) || b)
      turned a b c = grind arith

  all_put : (P : V → Type 0) → P v → (xs : List V) (i : ℕ) → AllByRecursion P xs → AllByRecursion P (insert xs i v)
  all_put P p [] zero all = (p, tt)
  all_put P p [] (suc i) all = (p, tt)
  all_put P p (x ∷ xs) zero all = (p, all)
  all_put P p (x ∷ xs) (suc i) all = (all.0, all_put P p xs i all.1)

  pub ascends : (xs : List V) (i : ℕ) → i ≤ length xs → IsPlace xs i → IsStrictlySortedBy R xs → IsStrictlySortedBy R (insert xs i v)
  unfolding IsStrictlySortedBy
  ascends [] zero within place sorted = (tt, tt)
  ascends [] (suc i) within place sorted = absurd (omega arith)
  ascends (x ∷ xs) zero within place sorted =
      let above : R v x ≡ Less = o.antisymm v x ∙ ap ordering_reverse (place.1 0 x (omega arith) (omega arith)) in
      ((above, all_of (λ y lower. o.trans v x y above lower) xs sorted.0), sorted)
  ascends (x ∷ xs) (suc i) within place sorted = (
    all_put (λ y. R x y ≡ Less) (place.0 0 x (omega arith) (omega arith)) xs i sorted.0,
    ascends xs i (omega arith) ((λ k d le below. place.0 (suc k) d (omega arith) (omega arith)), (λ k d le below. place.1 (suc k) d (omega arith) (omega arith))) sorted.1,
  )
