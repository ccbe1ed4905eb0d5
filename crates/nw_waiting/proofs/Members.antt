-- The members of the lists in a map after a change.
use Rattle.nw_waiting.proofs.Words.{◌≡◌, ◌∙◌, ℕ, ◌+◌, ◌<◌, length, take, get_or, Bool, true, false, cond, not, ◌&&◌, ◌||◌, List, [], ◌∷◌, ◌++◌, Some, refl, sym, ap, arith, subst, filter, Ordering, IsTotalOrder, eq_by_cmp_equiv, list_any, is_at, lookup, eq_by_cmp, take_more, list_any-append, IsDistinct-head, IsDistinct-tail}
use Rattle.std.proofs.Common.{Equal, suc, zero}
use Rattle.std.specs.List.{AllByRecursion, HoldsAt, IsDistinct, remove}
use Rattle.std.specs.Ordering.{is_eq}
use Rattle.std.specs.HashMap.Eq.{lookup_congr}
use Rattle.std.specs.List.Sorted.{IsStrictlySortedBy}
use Rattle.std.proofs.lemmas.List.Kept.{IsStrictlySortedBy-filter}
use Rattle.std.proofs.lemmas.Map.Keys.{IsDistinct-cons, IsDistinct-push}
use Rattle.std.proofs.lemmas.Map.Made.{is_member-filter}
use Rattle.nw_waiting.specs.Lists.{list_of}

or_false : (b : Bool) → b ≡ (b || false)
or_false true = refl
or_false false = refl

pub and_true : (b : Bool) → b ≡ (b && true)
and_true true = refl
and_true false = refl

either : {X : Type 0} (b : Bool) (x : X) → cond b x x ≡ x
either true x = refl
either false x = refl

-- the list w is written at the key k
module _ {K L V : Type 0} {RK : K → K → Ordering} (o : IsTotalOrder RK) (items : L → List V) (es fs : List (K × L)) (k : K) (w : L)
    (put : (q : K) → lookup (is_at (RK q)) fs ≡ cond (eq_by_cmp RK k q) (Some w) (lookup (is_at (RK q)) es)) where
  abbrev at : List (K × L) → K → List V
  at es q = list_of items (lookup (is_at (RK q)) es)

  pub written : (to : List V → List V) → items w ≡ to (at es k) → (q : K) → at fs q ≡ cond (eq_by_cmp RK k q) (to (at es q)) (at es q)
  written to is q = ap (list_of items) (put q) ∙ by (eq_by_cmp RK k q) refl
    where
      by : (b : Bool) → eq_by_cmp RK k q ≡ b → list_of items (cond b (Some w) (lookup (is_at (RK q)) es)) ≡ cond b (to (at es q)) (at es q)
      by true e = is ∙ ap (λ found. to (list_of items found)) (lookup_congr (eq_by_cmp RK) (eq_by_cmp_equiv o).congr es k q e)
      by false e = refl

  pub placed : (q : K) → at fs q ≡ cond (eq_by_cmp RK k q) (items w) (at es q)
  placed q = ap (list_of items) (put q) ∙ by (eq_by_cmp RK k q)
    where
      by : (b : Bool) → list_of items (cond b (Some w) (lookup (is_at (RK q)) es)) ≡ cond b (items w) (at es q)
      by true = refl
      by false = refl

  pub rewritten : items w ≡ at es k → (q : K) → at fs q ≡ at es q
  rewritten is q = written (λ xs. xs) is q ∙ either (eq_by_cmp RK k q) (at es q)

module _ {X : Type 0} (E : X → X → Bool) (p : X → Bool) where
  kept_all : (y : X) (xs : List X) → AllByRecursion (λ x. E y x ≡ false) xs → AllByRecursion (λ x. E y x ≡ false) (filter p xs)
  kept_all y [] all = all
  kept_all y (x ∷ xs) all = elim (p x) as (λ b. AllByRecursion (λ x. E y x ≡ false) (cond b (x ∷ filter p xs) (filter p xs))) [ true ↦ (all.0, kept_all y xs all.1) | false ↦ kept_all y xs all.1 ]

  pub IsDistinct-filter : (xs : List X) → IsDistinct E xs → IsDistinct E (filter p xs)
  IsDistinct-filter [] d = d
  IsDistinct-filter (x ∷ xs) d =
      elim (p x) as (λ b. IsDistinct E (cond b (x ∷ filter p xs) (filter p xs))) [
        | true ↦ IsDistinct-cons E x (filter p xs) (kept_all x xs (IsDistinct-head E x xs d)) (IsDistinct-filter xs (IsDistinct-tail E x xs d))
        | false ↦ IsDistinct-filter xs (IsDistinct-tail E x xs d)
      ]

-- the value at a place, which stands nowhere else, is taken out
module _ {V : Type 0} {R : V → V → Ordering} (o : IsTotalOrder R) (v : V) where
  abbrev others : V → Bool
  others x = not (eq_by_cmp R x v)

  none_more : (x : V) (xs : List V) → eq_by_cmp R x v ≡ true → AllByRecursion (λ y. eq_by_cmp R x y ≡ false) xs → filter others xs ≡ xs
  none_more x [] is all = refl
  none_more x (y ∷ ys) is all =
      let other : others y ≡ true = ap not ((eq_by_cmp_equiv o).symm y v ∙ sym ((eq_by_cmp_equiv o).congr x v y is) ∙ all.0) in
      ap (λ b. cond b (y ∷ filter others ys) (filter others ys)) other ∙ ap (λ (rest : List V). y ∷ rest) (none_more x ys is all.1)

  apart_at : (x : V) (xs : List V) (i : ℕ) → i < length xs → AllByRecursion (λ y. eq_by_cmp R x y ≡ false) xs → HoldsAt (λ y. R y v ≡ Equal) xs i → eq_by_cmp R x v ≡ false
  apart_at x [] i below all at = absurd (omega arith)
  apart_at x (y ∷ ys) zero below all at = (eq_by_cmp_equiv o).symm x v ∙ sym ((eq_by_cmp_equiv o).congr y v x (ap is_eq (at y))) ∙ (eq_by_cmp_equiv o).symm y x ∙ all.0
  apart_at x (y ∷ ys) (suc i) below all at = apart_at x ys i (omega arith) all.1 at

  pub removed_at : (xs : List V) (i : ℕ) → IsDistinct (eq_by_cmp R) xs → i < length xs → HoldsAt (λ y. R y v ≡ Equal) xs i → remove xs i ≡ filter others xs
  removed_at [] i once below at = absurd (omega arith)
  removed_at (x ∷ xs) zero once below at =
      let is = ap is_eq (at x) in
      sym (ap (λ b. cond (not b) (x ∷ filter others xs) (filter others xs)) is ∙ none_more x xs is (IsDistinct-head (eq_by_cmp R) x xs once))
  removed_at (x ∷ xs) (suc i) once below at =
      let other = apart_at x xs i (omega arith) (IsDistinct-head (eq_by_cmp R) x xs once) at in
      ap (λ (rest : List V). x ∷ rest) (removed_at xs i (IsDistinct-tail (eq_by_cmp R) x xs once) (omega arith) at) ∙ sym (ap (λ b. cond (not b) (x ∷ filter others xs) (filter others xs)) other)

module _ {K V : Type 0} (RK : K → K → Ordering) {RV : V → V → Ordering} (o : IsTotalOrder RV) (at new : K → List V) (k : K) (v : V) where
  -- a value is appended to the list of the key
  module _ (put : (q : K) → new q ≡ cond (eq_by_cmp RK k q) (at q ++ v ∷ []) (at q)) where
    pub member_added : (q : K) (x : V) → list_any (eq_by_cmp RV x) (new q) ≡ (list_any (eq_by_cmp RV x) (at q) || (eq_by_cmp RK k q && eq_by_cmp RV x v))
    member_added q x = ap (list_any (eq_by_cmp RV x)) (put q) ∙ by (eq_by_cmp RK k q)
      where
        by : (b : Bool) → list_any (eq_by_cmp RV x) (cond b (at q ++ v ∷ []) (at q)) ≡ (list_any (eq_by_cmp RV x) (at q) || (b && eq_by_cmp RV x v))
        by true = list_any-append (eq_by_cmp RV x) (at q) (v ∷ []) ∙ ap (λ b. list_any (eq_by_cmp RV x) (at q) || b) (sym (or_false _))
        by false = or_false _

    pub once_added : ((q : K) → IsDistinct (eq_by_cmp RV) (at q)) → ((q : K) → eq_by_cmp RK k q ≡ true → list_any (eq_by_cmp RV v) (at q) ≡ false) → (q : K) → IsDistinct (eq_by_cmp RV) (new q)
    once_added once absent q = subst (IsDistinct (eq_by_cmp RV)) (sym (put q)) (by (eq_by_cmp RK k q) refl)
      where
        by : (b : Bool) → eq_by_cmp RK k q ≡ b → IsDistinct (eq_by_cmp RV) (cond b (at q ++ v ∷ []) (at q))
        by true is = IsDistinct-push (eq_by_cmp_equiv o) (at q) v (once q) (absent q is)
        by false is = once q

  -- the list of the key is replaced
  module _ (ys : List V) (put : (q : K) → new q ≡ cond (eq_by_cmp RK k q) ys (at q)) where
    pub member_put : ((q : K) → eq_by_cmp RK k q ≡ true → at k ≡ at q) → ((x : V) → list_any (eq_by_cmp RV x) ys ≡ (list_any (eq_by_cmp RV x) (at k) || eq_by_cmp RV x v)) → (q : K) (x : V)
        → list_any (eq_by_cmp RV x) (new q) ≡ (list_any (eq_by_cmp RV x) (at q) || (eq_by_cmp RK k q && eq_by_cmp RV x v))
    member_put same any q x = ap (list_any (eq_by_cmp RV x)) (put q) ∙ by (eq_by_cmp RK k q) refl
      where
        by : (b : Bool) → eq_by_cmp RK k q ≡ b → list_any (eq_by_cmp RV x) (cond b ys (at q)) ≡ (list_any (eq_by_cmp RV x) (at q) || (b && eq_by_cmp RV x v))
        by true is = any x ∙ ap (λ xs. list_any (eq_by_cmp RV x) xs || eq_by_cmp RV x v) (same q is)
        by false is = or_false _

    pub ascending_put : IsStrictlySortedBy RV ys → ((q : K) → IsStrictlySortedBy RV (at q)) → (q : K) → IsStrictlySortedBy RV (new q)
    ascending_put first rest q = subst (IsStrictlySortedBy RV) (sym (put q)) (by (eq_by_cmp RK k q))
      where
        by : (b : Bool) → IsStrictlySortedBy RV (cond b ys (at q))
        by true = first
        by false = rest q

  -- a value is removed from the list of the key
  module _ (took : (q : K) → new q ≡ cond (eq_by_cmp RK k q) (filter (λ x. not (eq_by_cmp RV x v)) (at q)) (at q)) where
    pub member_removed : (q : K) (x : V) → list_any (eq_by_cmp RV x) (new q) ≡ (list_any (eq_by_cmp RV x) (at q) && not (eq_by_cmp RK k q && eq_by_cmp RV x v))
    member_removed q x = ap (list_any (eq_by_cmp RV x)) (took q) ∙ by (eq_by_cmp RK k q)
      where
        tied : (y : V) → eq_by_cmp RV x y ≡ true → not (eq_by_cmp RV x v) ≡ not (eq_by_cmp RV y v)
        tied y e = ap not ((eq_by_cmp_equiv o).congr x y v e)

        by : (b : Bool) → list_any (eq_by_cmp RV x) (cond b (filter (λ x. not (eq_by_cmp RV x v)) (at q)) (at q)) ≡ (list_any (eq_by_cmp RV x) (at q) && not (b && eq_by_cmp RV x v))
        by true = is_member-filter (eq_by_cmp_equiv o) (λ y. not (eq_by_cmp RV y v)) x tied (at q)
        by false = and_true _

    pub once_removed : ((q : K) → IsDistinct (eq_by_cmp RV) (at q)) → (q : K) → IsDistinct (eq_by_cmp RV) (new q)
    once_removed once q = subst (IsDistinct (eq_by_cmp RV)) (sym (took q)) (by (eq_by_cmp RK k q))
      where
        by : (b : Bool) → IsDistinct (eq_by_cmp RV) (cond b (filter (λ x. not (eq_by_cmp RV x v)) (at q)) (at q))
        by true = IsDistinct-filter (eq_by_cmp RV) _ (at q) (once q)
        by false = once q

    pub ascending_removed : ((q : K) → IsStrictlySortedBy RV (at q)) → (q : K) → IsStrictlySortedBy RV (new q)
    ascending_removed ascends q = subst (IsStrictlySortedBy RV) (sym (took q)) (by (eq_by_cmp RK k q))
      where
        by : (b : Bool) → IsStrictlySortedBy RV (cond b (filter (λ x. not (eq_by_cmp RV x v)) (at q)) (at q))
        by true = IsStrictlySortedBy-filter RV _ (at q) (ascends q)
        by false = ascends q

-- the value is removed from the list of one more key
pub taken_more : (m i e v : Bool) → ((m && not (i && v)) && not (e && v)) ≡ (m && not ((i || (e || false)) && v))
taken_more false i e v = refl
taken_more true true e true = refl
taken_more true true true false = refl
taken_more true true false false = refl
taken_more true false true true = refl
taken_more true false true false = refl
taken_more true false false true = refl
taken_more true false false false = refl

pub each_more : {K V : Type 0} {RK : K → K → Ordering} {RV : V → V → Ordering} (ok : IsTotalOrder RK) (ov : IsTotalOrder RV) (old cur new : K → List V) (keys : List K) (i : ℕ) (k : K) (v : V) → i < length keys → k ≡ get_or keys i k
    → ((q : K) → new q ≡ cond (eq_by_cmp RK k q) (filter (λ x. not (eq_by_cmp RV x v)) (cur q)) (cur q))
    → ((q : K) (x : V) → list_any (eq_by_cmp RV x) (cur q) ≡ (list_any (eq_by_cmp RV x) (old q) && not (list_any (eq_by_cmp RK q) (take i keys) && eq_by_cmp RV x v)))
    → (q : K) (x : V) → list_any (eq_by_cmp RV x) (new q) ≡ (list_any (eq_by_cmp RV x) (old q) && not (list_any (eq_by_cmp RK q) (take (i + 1) keys) && eq_by_cmp RV x v))
each_more {RK = RK} {RV = RV} ok ov old cur new keys i k v in_range at took before q x =
    member_removed RK ov cur new k v took q x
    ∙ ap (λ b. b && not (eq_by_cmp RK k q && eq_by_cmp RV x v)) (before q x)
    ∙ ap (λ b. (list_any (eq_by_cmp RV x) (old q) && not (list_any (eq_by_cmp RK q) (take i keys) && eq_by_cmp RV x v)) && not (b && eq_by_cmp RV x v)) ((eq_by_cmp_equiv ok).symm k q)
    ∙ taken_more (list_any (eq_by_cmp RV x) (old q)) (list_any (eq_by_cmp RK q) (take i keys)) (eq_by_cmp RK q k) (eq_by_cmp RV x v)
    ∙ ap (λ b. list_any (eq_by_cmp RV x) (old q) && not (b && eq_by_cmp RV x v))
    (sym (ap (list_any (eq_by_cmp RK q)) (take_more keys i k in_range ∙ ap (λ y. take i keys ++ y ∷ []) (sym at)) ∙ list_any-append (eq_by_cmp RK q) (take i keys) (k ∷ [])))
