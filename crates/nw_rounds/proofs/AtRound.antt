-- Which digests belong to a range of rounds.
use Rattle.nw_rounds.proofs.Words.{◌≡◌, ◌∙◌, ◌⊎◌, inl, inr, ℕ, ◌<◌, Bool, true, false, cond, ◌&&◌, ◌++◌, List, [], ◌∷◌, map, Bor, Option, Some, None, zero, suc, refl, sym, ap, subst, arith, filter, Contains, IsPermutation, nat_le, slice_get, Less, Equal, Greater, nat_cmp, eq_by_cmp, ordering_then, eq_by_cmp_equiv, nat_cmp_is, IsFiltered, DiffersFromLast, IsSorted, IsStrictlySortedBy, lookup, keys_of, values_of, is_at, get, deref_pair, lookup-filter-keys, Digest, digest_cmp, Slot, tie}
use Rattle.std.proofs.Common.{◌≤◌, not}
use Rattle.std.specs.Prelude.{All}
use Rattle.std.specs.Bool.{MatchBool}
use Rattle.std.specs.declared.cmp.Ordering.{Ordering}
use Rattle.std.specs.declared.ops.Bound.TheVariants.{Included, Excluded}
use Rattle.std.specs.Ordering.{is_gt, is_le}
use Rattle.std.specs.List.{IsDistinct}
use Rattle.std.specs.BTreeMap.Range.{IsLeBy, range_contains}
use Rattle.std.proofs.lemmas.Bool.{le-leb, lt-leb, ltb-true, ltb-false}
use Rattle.std.proofs.lemmas.List.Elements.{All-head, All-tail, All-weaker, filter_agree}
use Rattle.std.proofs.lemmas.List.Kept.{IsStrictlySortedBy-filter}
use Rattle.std.proofs.lemmas.Map.Keys.{IsDistinct-from_sorted}
use Rattle.std.proofs.lemmas.Map.Made.{Contains-from_values_of, Contains-values_of, IsDistinct-keys_filter}
use Rattle.std.proofs.lemmas.Map.Views.{Contains-from_lookup, lookup-from_Contains}
use Rattle.std.proofs.lemmas.Bool.Decides.{nat_tests}
use lib.Dec.{leb, ltb}
use Rattle.nw_rounds.specs.declared.kind.DigestKind.{DigestKind}
use Rattle.nw_rounds.specs.declared.kind.DigestKind.TheVariants.{First, Certified}
use Rattle.nw_rounds.specs.Slots.{AreDigestsBetween, HasAllDigests, IsDigestAt, Tables}
use Rattle.nw_rounds.specs.Places.{ArePlacesBetween, BeginsBelow, Place, place_cmp, kind_cmp, map_of, tables_of}
use Rattle.nw_rounds.proofs.SlotLemmas.{places_apart, places_total}
use Rattle.nw_rounds.proofs.OfKind.{get_in}
use Rattle.nw_rounds.proofs.Sorted.{same, same_digests, ascends}

-- no place of a round comes before its first place
from_first : (author : ℕ) (t : DigestKind) → is_le (ordering_then (nat_cmp 0 author) (kind_cmp First t)) ≡ true
from_first author First = elim author as (λ a. is_le (ordering_then (nat_cmp 0 a) Equal) ≡ true) [ zero ↦ refl | suc n ↦ rw (sym (nat_cmp_is 0 (suc n) Less (omega arith))) refl ]
from_first author Certified = elim author as (λ a. is_le (ordering_then (nat_cmp 0 a) Less) ≡ true) [ zero ↦ refl | suc n ↦ rw (sym (nat_cmp_is 0 (suc n) Less (omega arith))) refl ]

pub trichotomy : (a b : ℕ) → (a < b) ⊎ ((a ≡ b) ⊎ (b < a))
trichotomy a b = grind arith

-- the first place of round n is p or comes before p exactly when n is at most p's round
from_start : (n : ℕ) (p : Place) → is_le (place_cmp ((n, 0), First) p) ≡ leb n p.0.0
from_start n p = by (trichotomy n p.0.0)
  where
    by : (n < p.0.0) ⊎ ((n ≡ p.0.0) ⊎ (p.0.0 < n)) → is_le (place_cmp ((n, 0), First) p) ≡ leb n p.0.0
    by (inl before) =
        ap (λ r. is_le (ordering_then (ordering_then r (nat_cmp 0 p.0.1)) (kind_cmp First p.1))) (sym (nat_cmp_is n p.0.0 Less before))
        ∙ sym (le-leb n p.0.0 (omega arith))
    by (inr (inl here)) =
        ap (λ r. is_le (ordering_then (ordering_then r (nat_cmp 0 p.0.1)) (kind_cmp First p.1))) (sym (nat_cmp_is n p.0.0 Equal here))
        ∙ from_first p.0.1 p.1 ∙ sym (le-leb n p.0.0 (omega arith))
    by (inr (inr after)) =
        ap (λ r. is_le (ordering_then (ordering_then r (nat_cmp 0 p.0.1)) (kind_cmp First p.1))) (sym (nat_cmp_is n p.0.0 Greater after))
        ∙ sym (lt-leb n p.0.0 (omega arith))

-- the first place of a round does not come after that of a higher round
pub begins_before : (a b : ℕ) → a ≤ b → is_gt (place_cmp ((a, 0), First) ((b, 0), First)) ≡ false
begins_before a b le = by (trichotomy a b)
  where
    rounds : (r : Ordering) → nat_cmp a b ≡ r → is_gt (ordering_then (ordering_then r Equal) Equal) ≡ false → is_gt (place_cmp ((a, 0), First) ((b, 0), First)) ≡ false
    rounds r is e = ap (λ o. is_gt (ordering_then (ordering_then o (nat_cmp 0 0)) (kind_cmp First First))) is ∙ e

    by : (a < b) ⊎ ((a ≡ b) ⊎ (b < a)) → is_gt (place_cmp ((a, 0), First) ((b, 0), First)) ≡ false
    by (inl before) = rounds Less (sym (nat_cmp_is a b Less before)) refl
    by (inr (inl here)) = rounds Equal (sym (nat_cmp_is a b Equal here)) refl
    by (inr (inr after)) = absurd (omega (arith, le, after))

-- whether a round is one of from..to
abbrev pub is_between : ℕ → ℕ → ℕ → Bool
is_between from to round = leb from round && not (leb to round)

-- the places from the first one of `from` up to the first one of `to` are those of the rounds from..to
pub in_rounds : (from to : ℕ) (p : Place) → range_contains place_cmp (Included ((from, 0), First)) (Excluded ((to, 0), First)) p ≡ is_between from to p.0.0
in_rounds from to p =
    ap (λ b. b && not (is_le (place_cmp ((to, 0), First) p))) (from_start from p)
    ∙ ap (λ b. leb from p.0.0 && not b) (from_start to p)

bounds_of_between : (from to round : ℕ) → is_between from to round ≡ true → (from ≤ round) × (round < to)
bounds_of_between from to round e = grind (arith, nat_tests)

between_of_bounds : (from to round : ℕ) → from ≤ round → round < to → is_between from to round ≡ true
between_of_bounds from to round low high = grind (arith, nat_tests)

kept_only : (b : Bool) (found : Option Digest) (d : Digest) → cond b found None ≡ Some d → (b ≡ true) × (found ≡ Some d)
kept_only true found d e = (refl, e)
kept_only false found d e = cc

-- a lookup in the map of a kind is one in the entries
pub at_kind : (es : List (Place × Digest)) (slot : Slot) (t : DigestKind) → get (map_of (tables_of es) t) slot ≡ lookup (is_at (place_cmp (slot, t))) es
at_kind es slot First = get_in First slot es
at_kind es slot Certified = get_in Certified slot es

-- each digest of a place is among the digests of the entries
pub all_listed : (es : List (Place × Digest)) → HasAllDigests (tables_of es) (values_of es)
all_listed es round d (author, is) = elim is [ inl first ↦ by First first | inr certified ↦ by Certified certified ]
  where
    by : (t : DigestKind) → get (map_of (tables_of es) t) (round, author) ≡ Some d → Contains (values_of es) d
    by t found =
        Contains-values_of es ((round, author), t) d
        (Contains-from_lookup (λ x y e. places_apart x y (tie (place_cmp x y) e)) ((round, author), t) d es (sym (at_kind es (round, author) t) ∙ found))

-- rs has the entries from the first place of `from` up to the first place of `to`
module _ (es rs : List (Place × Digest)) (from to : ℕ) (sorted : IsStrictlySortedBy place_cmp (keys_of es))
    (part : rs ≡ filter (λ e. range_contains place_cmp (Included ((from, 0), First)) (Excluded ((to, 0), First)) e.0) es) where
  entries_between : rs ≡ filter (λ e. is_between from to e.0.0.0) es
  entries_between = part ∙ filter_agree _ _ (λ e. in_rounds from to e.0) es

  apart : IsDistinct (eq_by_cmp place_cmp) (keys_of rs)
  apart = rw entries_between (IsDistinct-keys_filter (eq_by_cmp place_cmp) _ es (IsDistinct-from_sorted place_cmp (keys_of es) sorted))

  lookup_between : (p : Place) → lookup (is_at (place_cmp p)) rs ≡ cond (is_between from to p.0.0) (lookup (is_at (place_cmp p)) es) None
  lookup_between p = ap (lookup (is_at (place_cmp p))) entries_between
      ∙ lookup-filter-keys (is_at (place_cmp p)) (λ (q : Place). is_between from to q.0.0) (is_between from to p.0.0) (λ q at. ap (λ (q : Place). is_between from to q.0.0) (sym (places_apart p q (tie (place_cmp p q) at)))) es

  keys_filtered : (p : Place → Bool) (xs : List (Place × Digest)) → keys_of (filter (λ e. p e.0) xs) ≡ filter p (keys_of xs)
  keys_filtered p [] = refl
  keys_filtered p (x ∷ xs) = by (p x.0) (keys_filtered p xs)
    where
      by : (b : Bool) → keys_of (filter (λ e. p e.0) xs) ≡ filter p (keys_of xs) → keys_of (cond b (x ∷ filter (λ e. p e.0) xs) (filter (λ e. p e.0) xs)) ≡ cond b (x.0 ∷ filter p (keys_of xs)) (filter p (keys_of xs))
      by true same = ap (λ rest. x.0 ∷ rest) same
      by false same = same

  pub ascend : IsStrictlySortedBy place_cmp (keys_of rs)
  ascend = subst (IsStrictlySortedBy place_cmp) (sym (ap keys_of entries_between ∙ keys_filtered (λ (p : Place). is_between from to p.0.0) es)) (IsStrictlySortedBy-filter place_cmp (λ (p : Place). is_between from to p.0.0) (keys_of es) sorted)

  pub are_places : ArePlacesBetween (tables_of es) from to rs
  are_places = record {
    exactly = λ p d. (
      (λ has.
          let both = kept_only (is_between from to p.0.0) _ d (sym (lookup_between p) ∙ lookup-from_Contains (eq_by_cmp_equiv places_total) p d rs apart has) in
          let here = bounds_of_between from to p.0.0 both.0 in
          (here.0, here.1, at_kind es p.0 p.1 ∙ both.1)),
      (λ (low, high, is).
          Contains-from_lookup (λ x y e. places_apart x y (tie (place_cmp x y) e)) p d rs
          (lookup_between p ∙ ap (λ b. cond b (lookup (is_at (place_cmp p)) es) None) (between_of_bounds from to p.0.0 low high) ∙ sym (at_kind es p.0 p.1) ∙ is)),
    );
    once = apart;
  }

module _ (t : Tables) (from to : ℕ) (rs : List (Place × Digest)) (are : ArePlacesBetween t from to rs) where
  abbrev IsDigestIn : Digest → Type 0
  IsDigestIn d = (round : ℕ) × (from ≤ round) × (round < to) × IsDigestAt t round d

  -- the digest of a place is a digest of the place's round
  of_place : (d : Digest) → Contains (values_of rs) d → IsDigestIn d
  of_place d has =
      let entry : (p : Place) × Contains rs (p, d) = Contains-from_values_of rs d has in
      let is = (are.exactly entry.0 d).0 entry.1 in
      (entry.0.0.0, is.0, is.1, by entry.0.0.0 entry.0.0.1 entry.0.1 is.2)
    where
      by : (r author : ℕ) (kind : DigestKind) → get (map_of t kind) (r, author) ≡ Some d → IsDigestAt t r d
      by r author First found = (author, inl found)
      by r author Certified found = (author, inr found)

  -- each digest of these rounds has a place
  at_place : (d : Digest) → IsDigestIn d → Contains (values_of rs) d
  at_place d (round, low, high, (author, inl is)) = Contains-values_of rs ((round, author), First) d ((are.exactly ((round, author), First) d).1 (low, high, is))
  at_place d (round, low, high, (author, inr is)) = Contains-values_of rs ((round, author), Certified) d ((are.exactly ((round, author), Certified) d).1 (low, high, is))

  -- the digests of these places, sorted and without repetitions, are the digests of these rounds
  pub are_digests : (old mid new : List Digest) → old ≡ values_of rs → IsPermutation old mid → IsSorted digest_cmp mid → IsFiltered (DiffersFromLast same) [] mid new → AreDigestsBetween t from to new
  are_digests old mid new is permutes sorted filters = record {
    exactly = λ d.
        let both = same_digests old mid new permutes filters d in
        (λ has. of_place d (subst (λ xs. Contains xs d) is (both.0 has)), λ among. both.1 (subst (λ xs. Contains xs d) (sym is) (at_place d among)));
    ascending = ascends mid new sorted filters;
  }

-- the digests that a loop over entries has read, when it reads one more
pub values_more : (es : List (Bor Place × Bor Digest)) (e : Bor Place × Bor Digest) → map (λ x. x.1.now) (es ++ e ∷ []) ≡ map (λ x. x.1.now) es ++ e.1.now ∷ []
values_more [] e = refl
values_more (x ∷ es) e = ap (λ rest. x.1.now ∷ rest) (values_more es e)

pub values_read : (es : List (Bor Place × Bor Digest)) → map (λ x. x.1.now) es ≡ values_of (map deref_pair es)
values_read [] = refl
values_read (x ∷ es) = ap (λ rest. x.1.now ∷ rest) (values_read es)

-- ---- entries of lower rounds
not_less : (p q : Place) → is_gt (place_cmp p q) ≡ false → p.0.0 ≤ q.0.0
not_less p q h = by (trichotomy p.0.0 q.0.0)
  where
    by : (p.0.0 < q.0.0) ⊎ ((p.0.0 ≡ q.0.0) ⊎ (q.0.0 < p.0.0)) → p.0.0 ≤ q.0.0
    by (inl before) = omega arith
    by (inr (inl here)) = omega arith
    by (inr (inr after)) =
        let no : true ≡ false = ap (λ r. is_gt (ordering_then (ordering_then r (nat_cmp p.0.1 q.0.1)) (kind_cmp p.1 q.1))) (nat_cmp_is p.0.0 q.0.0 Greater after) ∙ h in cc

-- any entry belongs to a lower round exactly when the first one does
pub first_tells : (round : ℕ) (es : List (Place × Digest)) (k : Place) (d : Digest) → slice_get es 0 ≡ Some (k, d) → All (IsLeBy place_cmp k) (keys_of es)
    → MatchBool (ltb k.0.0 round) (BeginsBelow round es) (All (λ p. round ≤ p.0.0) (keys_of es))
first_tells round es k d first least = by (ltb k.0.0 round) refl
  where
    begins : (es : List (Place × Digest)) → slice_get es 0 ≡ Some (k, d) → k.0.0 < round → BeginsBelow round es
    begins [] first low = cc
    begins (e ∷ rest) first low = let same : e ≡ (k, d) = cc in let round_is : e.0.0.0 ≡ k.0.0 = ap (λ (x : Place × Digest). x.0.0.0) same in omega arith

    by : (b : Bool) → ltb k.0.0 round ≡ b → MatchBool b (BeginsBelow round es) (All (λ p. round ≤ p.0.0) (keys_of es))
    by true is = begins es first (ltb-true k.0.0 round is)
    by false is = All-weaker (IsLeBy place_cmp k) (λ (p : Place). round ≤ p.0.0) (λ p h. let low = ltb-false k.0.0 round is in let up = not_less k p h in omega arith) (keys_of es) least

pub none_lower : (round : ℕ) (es : List (Place × Digest)) → All (λ p. round ≤ p.0.0) (keys_of es) → filter (λ e. nat_le round e.0.0.0) es ≡ es
none_lower round [] all = refl
none_lower round (e ∷ es) all =
    ap (λ b. cond b (e ∷ filter (λ x. nat_le round x.0.0.0) es) (filter (λ x. nat_le round x.0.0.0) es)) (le-leb round e.0.0.0 (All-head (λ (p : Place). round ≤ p.0.0) e.0 (keys_of es) all))
    ∙ ap (λ rest. e ∷ rest) (none_lower round es (All-tail (λ (p : Place). round ≤ p.0.0) e.0 (keys_of es) all))
