-- The pairs in the lists, and the pairs after a change of the lists.
use Rattle.nw_waiting.proofs.Words.{◌≡◌, ◌∙◌, Bool, true, false, cond, not, ◌&&◌, ◌||◌, List, [], ◌∷◌, Some, None, refl, sym, ap, subst, Ordering, eq_by_cmp_equiv, list_any, IsStrictlySortedBy, lookup, keys_of, is_at, eq_by_cmp, contains, contains-insert, contains-retain, from_list, insert, same_set, list_any-append, Contains-from_any, list_any-from_Contains, Digest, Wanted, digest_cmp, wanted_cmp, digests_total, same_digest, one_wanted, wanted_total}
use Rattle.std.proofs.Common.{◌≢◌, map, Option, Result, Ok, Err}
use Rattle.std.specs.Prelude.{IsSome, OnErr}
use Rattle.std.specs.List.{IsDistinct}
use Rattle.std.specs.FinSet.{contains-from_list}
use Rattle.std.proofs.lemmas.Map.{lookup-none}
use Rattle.std.proofs.lemmas.Map.Entries.{none_past_head}
use Rattle.std.proofs.lemmas.Map.Keys.{IsDistinct-from_sorted, sorted_tail}
use Rattle.std.proofs.lemmas.Map.Views.{Contains-keys_from_lookup, IsSome-lookup_from_Contains}
use Rattle.nw_waiting.specs.Index.{pairs_in}
use Rattle.nw_waiting.specs.Lists.{AreFilled, list_of}
use Rattle.nw_waiting.specs.Pairs.{AreHolders, AreMissing, AreWanted, Lacks, Pair, Pairs, pair_cmp, without_holder, without_wanted}
use Rattle.nw_digest.proofs.Maps.{tie}
use Rattle.nw_waiting.proofs.Orders.{pair_tied, pairs_apart, pairs_total}

or_false : (b : Bool) → (b || false) ≡ b
or_false true = refl
or_false false = refl

pub on_err : {T E : Type 0} (r : Result T E) {P : Type 0} → P → OnErr r P
on_err (Ok x) p = tt
on_err (Err e) p = p

module _ {L : Type 0} (holders : L → List Digest) where
  any_of_one : (w v : Wanted) (h : Digest) (hs : List Digest)
      → list_any (eq_by_cmp pair_cmp (w, h)) (map (λ x. (v, x)) hs) ≡ (eq_by_cmp wanted_cmp w v && list_any (eq_by_cmp digest_cmp h) hs)
  any_of_one w v h [] = by (eq_by_cmp wanted_cmp w v)
    where
      by : (b : Bool) → false ≡ (b && false)
      by true = refl
      by false = refl
  any_of_one w v h (x ∷ hs) =
      ap (λ b. b || list_any (eq_by_cmp pair_cmp (w, h)) (map (λ x. (v, x)) hs)) (pair_tied (w, h) (v, x))
      ∙ ap (λ b. (eq_by_cmp wanted_cmp w v && eq_by_cmp digest_cmp h x) || b) (any_of_one w v h hs)
      ∙ by (eq_by_cmp wanted_cmp w v)
    where
      by : (b : Bool) → ((b && eq_by_cmp digest_cmp h x) || (b && list_any (eq_by_cmp digest_cmp h) hs)) ≡ (b && (eq_by_cmp digest_cmp h x || list_any (eq_by_cmp digest_cmp h) hs))
      by true = refl
      by false = refl

  any_in : (es : List (Wanted × L)) → IsStrictlySortedBy wanted_cmp (keys_of es) → (w : Wanted) (h : Digest)
      → list_any (eq_by_cmp pair_cmp (w, h)) (pairs_in holders es) ≡ list_any (eq_by_cmp digest_cmp h) (list_of holders (lookup (is_at (wanted_cmp w)) es))
  any_in [] sorted w h = refl
  any_in (e ∷ es) sorted w h =
      list_any-append (eq_by_cmp pair_cmp (w, h)) (map (λ x. (e.0, x)) (holders e.1)) (pairs_in holders es)
      ∙ ap (λ b. b || list_any (eq_by_cmp pair_cmp (w, h)) (pairs_in holders es)) (any_of_one w e.0 h (holders e.1))
      ∙ ap (λ b. (eq_by_cmp wanted_cmp w e.0 && list_any (eq_by_cmp digest_cmp h) (holders e.1)) || b) (any_in es (sorted_tail wanted_cmp e.0 (keys_of es) sorted) w h)
      ∙ by (eq_by_cmp wanted_cmp w e.0) refl
    where
      by : (b : Bool) → eq_by_cmp wanted_cmp w e.0 ≡ b
          → ((b && list_any (eq_by_cmp digest_cmp h) (holders e.1)) || list_any (eq_by_cmp digest_cmp h) (list_of holders (lookup (is_at (wanted_cmp w)) es)))
          ≡ list_any (eq_by_cmp digest_cmp h) (list_of holders (cond b (Some e.1) (lookup (is_at (wanted_cmp w)) es)))
      by true is =
          let none : lookup (is_at (wanted_cmp w)) es ≡ None =
          lookup-none (is_at (wanted_cmp w)) es (none_past_head (eq_by_cmp_equiv wanted_total) w e es (IsDistinct-from_sorted wanted_cmp (keys_of (e ∷ es)) sorted) is) in
          ap (λ found. list_any (eq_by_cmp digest_cmp h) (holders e.1) || list_any (eq_by_cmp digest_cmp h) (list_of holders found)) none ∙ or_false _
      by false is = refl

  -- the set of pairs has exactly the pairs of the lists
  pub contains_in : (es : List (Wanted × L)) → IsStrictlySortedBy wanted_cmp (keys_of es) → (w : Wanted) (h : Digest)
      → contains (from_list {R = pair_cmp} (pairs_in holders es)) (w, h) ≡ list_any (eq_by_cmp digest_cmp h) (list_of holders (lookup (is_at (wanted_cmp w)) es))
  contains_in es sorted w h = contains-from_list pairs_total (pairs_in holders es) (w, h) ∙ any_in es sorted w h

  -- any set with exactly the pairs of the lists is that set
  pub view_is : (es : List (Wanted × L)) → IsStrictlySortedBy wanted_cmp (keys_of es) → (s : Pairs)
      → ((w : Wanted) (h : Digest) → list_any (eq_by_cmp digest_cmp h) (list_of holders (lookup (is_at (wanted_cmp w)) es)) ≡ contains s (w, h)) → from_list (pairs_in holders es) ≡ s
  view_is es sorted s is = same_set pairs_total pairs_apart _ s (λ p. contains_in es sorted p.0 p.1 ∙ is p.0 p.1)

-- whether w and h are the pair of this parent and this holder
abbrev pub is_pair : Wanted → Digest → Wanted → Digest → Bool
is_pair wanted holder w h = eq_by_cmp wanted_cmp wanted w && eq_by_cmp digest_cmp h holder

turned : (wanted w : Wanted) (holder h : Digest) → (eq_by_cmp digest_cmp holder h && eq_by_cmp wanted_cmp w wanted) ≡ is_pair wanted holder w h
turned wanted w holder h =
    ap (λ b. b && eq_by_cmp wanted_cmp w wanted) ((eq_by_cmp_equiv digests_total).symm holder h)
    ∙ ap (λ b. eq_by_cmp digest_cmp h holder && b) ((eq_by_cmp_equiv wanted_total).symm w wanted)
    ∙ swapped (eq_by_cmp digest_cmp h holder) (eq_by_cmp wanted_cmp wanted w)
  where
    swapped : (a b : Bool) → (a && b) ≡ (b && a)
    swapped true true = refl
    swapped true false = refl
    swapped false true = refl
    swapped false false = refl

-- a pair is added to both indexes
pub same_added : (wanted w : Wanted) (holder h : Digest) (a b m n : Bool) → a ≡ (m || is_pair wanted holder w h) → b ≡ (n || (eq_by_cmp digest_cmp holder h && eq_by_cmp wanted_cmp w wanted)) → m ≡ n → a ≡ b
same_added wanted w holder h a b m n p q is = p ∙ ap (λ x. x || is_pair wanted holder w h) is ∙ ap (λ x. n || x) (sym (turned wanted w holder h)) ∙ sym q

pub contains_added : (s : Pairs) (wanted w : Wanted) (holder h : Digest) → (contains s (w, h) || is_pair wanted holder w h) ≡ contains (insert s (wanted, holder)) (w, h)
contains_added s wanted w holder h =
    swapped (contains s (w, h)) (is_pair wanted holder w h)
    ∙ ap (λ b. b || contains s (w, h)) (ap (λ b. b && eq_by_cmp digest_cmp h holder) ((eq_by_cmp_equiv wanted_total).symm wanted w) ∙ sym (pair_tied (w, h) (wanted, holder)))
    ∙ sym (contains-insert pairs_total s (wanted, holder) (w, h))
  where
    swapped : (a b : Bool) → (a || b) ≡ (b || a)
    swapped true true = refl
    swapped true false = refl
    swapped false true = refl
    swapped false false = refl

-- adding a pair that is there already changes nothing
pub insert_same : (s : Pairs) (wanted : Wanted) (holder : Digest) → contains s (wanted, holder) ≡ true → s ≡ insert s (wanted, holder)
insert_same s wanted holder there = same_set pairs_total pairs_apart s _ (λ p. by p (eq_by_cmp pair_cmp p (wanted, holder)) refl ∙ sym (contains-insert pairs_total s (wanted, holder) p))
  where
    by : (p : Pair) (b : Bool) → eq_by_cmp pair_cmp p (wanted, holder) ≡ b → contains s p ≡ (b || contains s p)
    by p true is = ap (contains s) (pairs_apart p (wanted, holder) (tie (pair_cmp p (wanted, holder)) is)) ∙ there
    by p false is = refl

-- ---- satisfied parents, and holders that no longer wait
pub nobody : {X : Type 0} (E : X → X → Bool) → IsDistinct E []
unfolding IsDistinct
nobody E = tt

module _ {K V L : Type 0} (RK : K → K → Ordering) (EV : V → V → Bool) (items : L → List V) (at new : K → Option L) (k : K) (none : (q : K) → new q ≡ cond (eq_by_cmp RK k q) None (at q)) where
  -- the list of a key was removed
  pub member_taken : (q : K) (v : V) → list_any (EV v) (list_of items (new q)) ≡ (list_any (EV v) (list_of items (at q)) && not (eq_by_cmp RK k q))
  member_taken q v = ap (λ found. list_any (EV v) (list_of items found)) (none q) ∙ by (eq_by_cmp RK k q) (list_any (EV v) (list_of items (at q))) refl
    where
      by : (b m : Bool) → list_any (EV v) (list_of items (at q)) ≡ m → list_any (EV v) (list_of items (cond b None (at q))) ≡ (m && not b)
      by true true is = refl
      by true false is = refl
      by false true is = is
      by false false is = is

  pub each_taken : (P : List V → Type 0) → P [] → ((q : K) → P (list_of items (at q))) → (q : K) → P (list_of items (new q))
  each_taken P empty each q = subst (λ found. P (list_of items found)) (sym (none q)) (by (eq_by_cmp RK k q))
    where
      by : (b : Bool) → P (list_of items (cond b None (at q)))
      by true = empty
      by false = each q

  pub filled_taken : AreFilled items at → AreFilled items new
  filled_taken filled q = subst (λ found. IsSome found → list_of items found ≢ []) (sym (none q)) (by (eq_by_cmp RK k q))
    where
      by : (b : Bool) → IsSome (cond b None (at q)) → list_of items (cond b None (at q)) ≢ []
      by true some = let no : false ≡ true = some in cc
      by false some = filled q some

-- both indexes lose the same pairs
pub same_satisfied : (wanted w : Wanted) (h : Digest) (m : Wanted → Digest → Bool) (n : Bool) → m w h ≡ n
    → (m w h && not (eq_by_cmp wanted_cmp wanted w)) ≡ (n && not (m wanted h && eq_by_cmp wanted_cmp w wanted))
same_satisfied wanted w h m n is =
    ap (λ x. m w h && not x) ((eq_by_cmp_equiv wanted_total).symm wanted w)
    ∙ by (eq_by_cmp wanted_cmp w wanted) refl
    ∙ ap (λ x. x && not (m wanted h && eq_by_cmp wanted_cmp w wanted)) is
  where
    itself : (a : Bool) → (a && false) ≡ (a && not (a && true))
    itself true = refl
    itself false = refl

    apart : (a c : Bool) → (a && true) ≡ (a && not (c && false))
    apart true true = refl
    apart true false = refl
    apart false c = refl

    by : (b : Bool) → eq_by_cmp wanted_cmp w wanted ≡ b → (m w h && not b) ≡ (m w h && not (m wanted h && b))
    by true e = itself (m w h) ∙ ap (λ v. m w h && not (m v h && true)) (one_wanted w wanted e)
    by false e = apart (m w h) (m wanted h)

pub same_unwanted : (holder h : Digest) (w : Wanted) (n : Digest → Wanted → Bool) (m : Bool) → m ≡ n h w
    → (m && not (n holder w && eq_by_cmp digest_cmp h holder)) ≡ (n h w && not (eq_by_cmp digest_cmp holder h))
same_unwanted holder h w n m is =
    ap (λ x. x && not (n holder w && eq_by_cmp digest_cmp h holder)) is
    ∙ by (eq_by_cmp digest_cmp h holder) refl
    ∙ ap (λ x. n h w && not x) ((eq_by_cmp_equiv digests_total).symm h holder)
  where
    itself : (a : Bool) → (a && not (a && true)) ≡ (a && false)
    itself true = refl
    itself false = refl

    apart : (a c : Bool) → (a && not (c && false)) ≡ (a && true)
    apart true true = refl
    apart true false = refl
    apart false c = refl

    by : (b : Bool) → eq_by_cmp digest_cmp h holder ≡ b → (n h w && not (n holder w && b)) ≡ (n h w && not b)
    by true e = ap (λ d. n h w && not (n d w && true)) (sym (same_digest h holder e)) ∙ itself (n h w)
    by false e = apart (n h w) (n holder w)

pub contains_without_wanted : (s : Pairs) (wanted w : Wanted) (h : Digest) → (contains s (w, h) && not (eq_by_cmp wanted_cmp wanted w)) ≡ contains (without_wanted s wanted) (w, h)
contains_without_wanted s wanted w h =
    sym (contains-retain s (λ p. not (eq_by_cmp wanted_cmp wanted p.0)) (w, h) (λ x e. ap (λ (p : Pair). not (eq_by_cmp wanted_cmp wanted p.0)) (sym (pairs_apart (w, h) x e))))

pub contains_without_holder : (s : Pairs) (holder h : Digest) (w : Wanted) → (contains s (w, h) && not (eq_by_cmp digest_cmp holder h)) ≡ contains (without_holder s holder) (w, h)
contains_without_holder s holder h w =
    sym (contains-retain s (λ p. not (eq_by_cmp digest_cmp holder p.1)) (w, h) (λ x e. ap (λ (p : Pair). not (eq_by_cmp digest_cmp holder p.1)) (sym (pairs_apart (w, h) x e))))

-- ---- the lists of holders, of missing parents, and of wanted parents
pub are_holders : (s : Pairs) (wanted : Wanted) (xs : List Digest) → ((h : Digest) → list_any (eq_by_cmp digest_cmp h) xs ≡ contains s (wanted, h)) → IsDistinct (eq_by_cmp digest_cmp) xs → AreHolders s wanted xs
are_holders s wanted xs is once = record {
  exactly = λ h. (
    (λ has. (sym (is h) ∙ list_any-from_Contains (eq_by_cmp_equiv digests_total) h xs has)),
    (λ has. Contains-from_any same_digest h xs (is h ∙ has)),
  );
  once = once;
}

pub are_missing : (s : Pairs) (holder : Digest) (xs : List Wanted) → ((w : Wanted) → list_any (eq_by_cmp wanted_cmp w) xs ≡ contains s (w, holder)) → IsDistinct (eq_by_cmp wanted_cmp) xs → AreMissing s holder xs
are_missing s holder xs is once = record {
  exactly = λ w. (
    (λ has. (sym (is w) ∙ list_any-from_Contains (eq_by_cmp_equiv wanted_total) w xs has)),
    (λ has. Contains-from_any one_wanted w xs (is w ∙ has)),
  );
  once = once;
}

pub are_wanted : {L : Type 0} (holders : L → List Digest) (es : List (Wanted × L)) (s : Pairs)
    → ((w : Wanted) (h : Digest) → list_any (eq_by_cmp digest_cmp h) (list_of holders (lookup (is_at (wanted_cmp w)) es)) ≡ contains s (w, h))
    → AreFilled holders (λ w. lookup (is_at (wanted_cmp w)) es) → IsStrictlySortedBy wanted_cmp (keys_of es) → AreWanted s (keys_of es)
are_wanted {L} holders es s is filled sorted = record {
  exactly = λ w. (
    (λ has. first w (lookup (is_at (wanted_cmp w)) es) (is w) (filled w (IsSome-lookup_from_Contains (eq_by_cmp_equiv wanted_total) w es has))),
    (λ some. Contains-keys_from_lookup one_wanted w es (there w some.0 (lookup (is_at (wanted_cmp w)) es) (is w some.0 ∙ some.1))),
  );
  ascending = sorted;
}
  where
    head : (w : Wanted) (xs : List Digest) → ((h : Digest) → list_any (eq_by_cmp digest_cmp h) xs ≡ contains s (w, h)) → xs ≢ [] → (h : Digest) × Lacks s h w
    head w [] any ne = absurd (ne refl)
    head w (x ∷ xs) any ne = (x, (sym (any x) ∙ ap (λ b. b || list_any (eq_by_cmp digest_cmp x) xs) ((eq_by_cmp_equiv digests_total).refl x)))

    first : (w : Wanted) (found : Option L) → ((h : Digest) → list_any (eq_by_cmp digest_cmp h) (list_of holders found) ≡ contains s (w, h)) → list_of holders found ≢ [] → (h : Digest) × Lacks s h w
    first w found any ne = head w (list_of holders found) any ne

    there : (w : Wanted) (h : Digest) (found : Option L) → list_any (eq_by_cmp digest_cmp h) (list_of holders found) ≡ true → IsSome found
    there w h None e = cc
    there w h (Some list) e = refl
