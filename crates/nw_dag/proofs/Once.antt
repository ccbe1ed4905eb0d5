-- Lists without repeated digests.
use Rattle.nw_dag.proofs.Words.{◌≡◌, ◌⊎◌, ◌≤◌, Bool, true, false, List, [], ◌∷◌, ◌++◌, length, refl, sym, ◌∙◌, subst, inl, inr, append_assoc, append-nil, ◌&&◌, Contains, Less, Greater, eq_by_cmp, FinMap, entries, keys, eq_by_cmp_equiv, All-contains, All-from_recursion, Contains-append_cases, IsDistinct-head, IsDistinct-tail, length-le_from_is_member, Contains-from_any, list_any-from_Contains, true≢false, Digest, digest_cmp, contains_cases, contains_first, contains_later, contains_none, digests_total, same_digest}
use Rattle.std.proofs.Common.{map}
use Rattle.std.specs.Prelude.{T}
use Rattle.std.specs.List.{IsDistinct, AllByRecursion, list_any}
use Rattle.std.specs.declared.cmp.Ordering.{Ordering}
use Rattle.std.specs.declared.cmp.Ordering.TheVariants.{Equal}
use Rattle.std.specs.Ordering.{is_eq, is_lt}
use Rattle.std.specs.FinMap.{entries_sorted, is_sorted}
use Rattle.std.specs.FinMap.Entries.{below_all}
use Rattle.std.proofs.lemmas.Map.Keys.{IsDistinct-cons, IsDistinct-push}
use Rattle.std.proofs.lemmas.Bool.{false_from_ne_true}

abbrev same : Digest → Digest → Bool
same = eq_by_cmp digest_cmp

abbrev pub IsOnce : List Digest → Type 0
IsOnce xs = IsDistinct (eq_by_cmp digest_cmp) xs

pub once_none : IsOnce []
unfolding IsDistinct
once_none = tt

pub once_one : (x : Digest) → IsOnce (x ∷ [])
once_one x = IsDistinct-push (eq_by_cmp_equiv digests_total) [] x once_none refl

-- a digest is among these, or not
pub among_or_not : (xs : List Digest) (x : Digest) → Contains xs x ⊎ (Contains xs x → ⊥)
among_or_not xs x = by (list_any (same x) xs) refl
  where
    by : (b : Bool) → list_any (same x) xs ≡ b → Contains xs x ⊎ (Contains xs x → ⊥)
    by true e = inl (Contains-from_any same_digest x xs e)
    by false e = inr (λ among. true≢false (sym (list_any-from_Contains (eq_by_cmp_equiv digests_total) x xs among) ∙ e))

-- the first digest is not among the others
pub first_once : (x : Digest) (xs : List Digest) → IsOnce (x ∷ xs) → Contains xs x → ⊥
first_once x xs once among =
    true≢false (sym ((eq_by_cmp_equiv digests_total).refl x) ∙ All-contains (λ y. same x y ≡ false) xs x (All-from_recursion (λ y. same x y ≡ false) xs (IsDistinct-head same x xs once)) among)

pub once_push : (xs : List Digest) (x : Digest) → IsOnce xs → (Contains xs x → ⊥) → IsOnce (xs ++ x ∷ [])
once_push xs x once apart = IsDistinct-push (eq_by_cmp_equiv digests_total) xs x once (false_from_ne_true (list_any (same x) xs) (λ any. apart (Contains-from_any same_digest x xs any)))

-- two lists with no common digest can be joined
pub once_both : (xs ys : List Digest) → IsOnce xs → IsOnce ys → ((x : Digest) → Contains ys x → Contains xs x → ⊥) → IsOnce (xs ++ ys)
once_both xs [] one two apart = subst IsOnce (sym (append-nil xs)) one
once_both xs (y ∷ ys) one two apart =
    subst IsOnce (append_assoc xs (y ∷ []) ys)
    (once_both (xs ++ y ∷ []) ys (once_push xs y one (apart y (contains_first y ys))) (IsDistinct-tail same y ys two) (λ x later among. elim (Contains-append_cases xs (y ∷ []) x among) [
      | inl before ↦ apart x (contains_later y ys x later) before
      | inr here ↦ elim (contains_cases y [] x here) [ inl is ↦ first_once y ys two (subst (Contains ys) (sym is) later) | inr none ↦ contains_none x none ]
    ]))

-- the end of a list without repeated digests has none either
pub once_back : (xs ys : List Digest) → IsOnce (xs ++ ys) → IsOnce ys
once_back [] ys once = once
once_back (x ∷ xs) ys once = once_back xs ys (IsDistinct-tail same x (xs ++ ys) once)

-- the keys of a map do not repeat
conj : (a b : Bool) → T (a && b) → T a × T b
conj true b h = (tt, h)
conj false b h = absurd h

apart : (o : Ordering) → T (is_lt o) → is_eq o ≡ false
apart Less h = refl
apart Equal h = absurd h
apart Greater h = refl

below : {X : Type 0} (x : Digest) (es : List (Digest × X)) → T (below_all digest_cmp x es) → AllByRecursion (λ y. same x y ≡ false) (map (λ (e : Digest × X). e.0) es)
below x [] h = tt
below x (e ∷ es) h = let two = conj (is_lt (digest_cmp x e.0)) (below_all digest_cmp x es) h in (apart (digest_cmp x e.0) two.0, below x es two.1)

rising : {X : Type 0} (es : List (Digest × X)) → T (is_sorted digest_cmp es) → IsOnce (map (λ (e : Digest × X). e.0) es)
rising [] h = once_none
rising (e ∷ es) h = let two = conj (below_all digest_cmp e.0 es) (is_sorted digest_cmp es) h in IsDistinct-cons same e.0 (map (λ x. x.0) es) (below e.0 es two.0) (rising es two.1)

pub once_keys : {X : Type 0} (m : FinMap digest_cmp X) → IsOnce (keys m)
once_keys m = rising (entries m) (entries_sorted m)

-- a list without repeated digests is not longer than a list with all its digests
pub no_longer : (xs ys : List Digest) → IsOnce xs → ((x : Digest) → Contains xs x → Contains ys x) → length xs ≤ length ys
no_longer xs ys once within = length-le_from_is_member (eq_by_cmp_equiv digests_total) xs ys once
    (λ q any. list_any-from_Contains (eq_by_cmp_equiv digests_total) q ys (within q (Contains-from_any same_digest q xs any)))
