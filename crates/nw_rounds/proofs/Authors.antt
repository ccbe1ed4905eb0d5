-- The authors of a round, from its places.
use Rattle.nw_rounds.proofs.Words.{◌≡◌, ◌∙◌, ◌⊎◌, inl, inr, ℕ, ◌<◌, Bool, true, false, cond, ◌++◌, List, [], ◌∷◌, map, Bor, Some, zero, suc, refl, sym, ap, subst, arith, Contains, slice_get, Less, Equal, Greater, nat_cmp, ordering_then, nat_cmp_is, dedup, IsSorted, IsStrictlySortedBy, keys_of, get, deref_pair, Contains-from_dedup, eqb, Digest, Slot}
use Rattle.std.proofs.Common.{◌+◌}
use Rattle.std.specs.Prelude.{◌-◌, length, get_or}
use Rattle.std.specs.Ordering.{is_lt}
use Rattle.std.specs.List.{dedup_from}
use Rattle.std.specs.Option.{option_map_or}
use Rattle.std.proofs.lemmas.List.Kept.{Contains-dedup_nat}
use Rattle.std.proofs.lemmas.Map.Keys.{IsStrictlyIncreasing-dedup, sorted_from_strictly_increasing, sorted_head, sorted_tail}
use Rattle.nw_rounds.specs.declared.kind.DigestKind.{DigestKind}
use Rattle.nw_rounds.specs.declared.kind.DigestKind.TheVariants.{First, Certified}
use Rattle.nw_digest.proofs.Elements.{contains_first, contains_later, contains_cases, contains_none}
use Rattle.nw_digest.proofs.Found.{which, is_there}
use Rattle.nw_rounds.specs.Slots.{AreAuthorsAt, HasDigest, Tables}
use Rattle.nw_rounds.specs.Places.{ArePlacesBetween, Place, place_cmp, kind_cmp, map_of, with_author}
use Rattle.nw_rounds.proofs.AtRound.{trichotomy}

-- the authors of the places
abbrev pub authors_of : List (Place × Digest) → List ℕ
authors_of rs = map (λ e. e.0.0.1) rs

-- an author of the places has a place
at_author : (rs : List (Place × Digest)) (author : ℕ) → Contains (authors_of rs) author → (p : Place) × (d : Digest) × Contains rs (p, d) × (p.0.1 ≡ author)
at_author [] author has = absurd (contains_none author has)
at_author (e ∷ rs) author has = elim (contains_cases e.0.0.1 (authors_of rs) author has) [
  | inl here ↦ (e.0, e.1, contains_first e rs, here)
  | inr later ↦ let (p, d, among, is) = at_author rs author later in (p, d, contains_later e rs (p, d) among, is)
]

of_author : (rs : List (Place × Digest)) (p : Place) (d : Digest) → Contains rs (p, d) → Contains (authors_of rs) p.0.1
of_author [] p d has = absurd (contains_none {X = Place × Digest} (p, d) has)
of_author (e ∷ rs) p d has = elim (contains_cases e rs (p, d) has) [
  | inl here ↦ subst (λ a. Contains (authors_of (e ∷ rs)) a) (ap (λ (x : Place × Digest). x.0.0.1) here) (contains_first e.0.0.1 (authors_of rs))
  | inr later ↦ contains_later e.0.0.1 (authors_of rs) p.0.1 (of_author rs p d later)
]

-- of two places of one round, the first has no higher author
author_up : (p q : Place) → p.0.0 ≡ q.0.0 → place_cmp p q ≡ Less → is_lt (nat_cmp q.0.1 p.0.1) ≡ false
author_up p q one before = by (trichotomy p.0.1 q.0.1)
  where
    by : (p.0.1 < q.0.1) ⊎ ((p.0.1 ≡ q.0.1) ⊎ (q.0.1 < p.0.1)) → is_lt (nat_cmp q.0.1 p.0.1) ≡ false
    by (inl low) = ap is_lt (sym (nat_cmp_is q.0.1 p.0.1 Greater low))
    by (inr (inl same)) = ap is_lt (sym (nat_cmp_is q.0.1 p.0.1 Equal (sym same)))
    by (inr (inr high)) =
        let rounds : nat_cmp p.0.0 q.0.0 ≡ Equal = sym (nat_cmp_is p.0.0 q.0.0 Equal one) in
        let authors : nat_cmp p.0.1 q.0.1 ≡ Greater = sym (nat_cmp_is p.0.1 q.0.1 Greater high) in
        let greater : place_cmp p q ≡ Greater = ap (λ r. ordering_then (ordering_then r (nat_cmp p.0.1 q.0.1)) (kind_cmp p.1 q.1)) rounds ∙ ap (λ r. ordering_then r (kind_cmp p.1 q.1)) authors in
        let no : Less ≡ Greater = sym before ∙ greater in cc

-- the authors of places of one round ascend
authors_ascend : (round : ℕ) (rs : List (Place × Digest)) → IsStrictlySortedBy place_cmp (keys_of rs) → ((e : Place × Digest) → Contains rs e → e.0.0.0 ≡ round) → IsSorted nat_cmp (authors_of rs)
authors_ascend round [] sorted one k d from within = absurd (omega arith)
authors_ascend round (e ∷ []) sorted one k d from within = absurd (omega arith)
authors_ascend round (e ∷ f ∷ rs) sorted one zero d from within =
    author_up e.0 f.0 (one e (contains_first e (f ∷ rs)) ∙ sym (one f (contains_later e (f ∷ rs) f (contains_first f rs)))) (sorted_head place_cmp e.0 (keys_of (f ∷ rs)) sorted).0
authors_ascend round (e ∷ f ∷ rs) sorted one (suc k) d from within =
    let next : suc k + 1 ≡ suc (k + 1) = omega arith in
    subst (λ n. is_lt (nat_cmp (get_or (authors_of (e ∷ f ∷ rs)) n d) (get_or (authors_of (f ∷ rs)) k d)) ≡ false) (sym next)
    (authors_ascend round (f ∷ rs) (sorted_tail place_cmp e.0 (keys_of (f ∷ rs)) sorted) (λ x among. one x (contains_later e (f ∷ rs) x among)) k d (omega arith) (omega arith))

-- ---- one more author

-- the list with y at the end, unless it is the last one already
abbrev with_last : List ℕ → ℕ → List ℕ
with_last [] y = y ∷ []
with_last (x ∷ []) y = cond (eqb y x) (x ∷ []) (x ∷ y ∷ [])
with_last (x ∷ z ∷ zs) y = x ∷ with_last (z ∷ zs) y

either : (b : Bool) (x : ℕ) (us vs : List ℕ) → cond b (x ∷ us) (x ∷ vs) ≡ x ∷ cond b us vs
either true x us vs = refl
either false x us vs = refl

is_with_last : (xs : List ℕ) (y : ℕ) → with_author xs y ≡ with_last xs y
is_with_last [] y = refl
is_with_last (x ∷ []) y = refl
is_with_last (x ∷ z ∷ zs) y =
    let next : length (x ∷ z ∷ zs) - 1 ≡ suc (length (z ∷ zs) - 1) = omega arith in
    ap (λ n. cond (option_map_or (λ last. eqb y last) (slice_get (x ∷ z ∷ zs) n) false) (x ∷ z ∷ zs) (x ∷ z ∷ zs ++ y ∷ [])) next
    ∙ either (option_map_or (λ last. eqb y last) (slice_get (z ∷ zs) (length (z ∷ zs) - 1)) false) x (z ∷ zs) (z ∷ zs ++ y ∷ [])
    ∙ ap (λ rest. x ∷ rest) (is_with_last (z ∷ zs) y)

after_first : (k x : ℕ) (xs : List ℕ) (y : ℕ) → with_last (k ∷ dedup_from eqb x xs) y ≡ k ∷ with_last (dedup_from eqb x xs) y
after_first k x [] y = refl
after_first k x (z ∷ zs) y = by (eqb z x) (after_first k x zs y)
  where
    by : (b : Bool) → with_last (k ∷ dedup_from eqb x zs) y ≡ k ∷ with_last (dedup_from eqb x zs) y → with_last (k ∷ cond b (dedup_from eqb x zs) (x ∷ dedup_from eqb z zs)) y ≡ k ∷ with_last (cond b (dedup_from eqb x zs) (x ∷ dedup_from eqb z zs)) y
    by true rest = rest
    by false rest = refl

dedup_from_more : (k : ℕ) (xs : List ℕ) (y : ℕ) → with_last (dedup_from eqb k xs) y ≡ dedup_from eqb k (xs ++ y ∷ [])
dedup_from_more k [] y = refl
dedup_from_more k (x ∷ xs) y = by (eqb x k) (dedup_from_more k xs y) (dedup_from_more x xs y)
  where
    by : (b : Bool) → with_last (dedup_from eqb k xs) y ≡ dedup_from eqb k (xs ++ y ∷ []) → with_last (dedup_from eqb x xs) y ≡ dedup_from eqb x (xs ++ y ∷ []) → with_last (cond b (dedup_from eqb k xs) (k ∷ dedup_from eqb x xs)) y ≡ cond b (dedup_from eqb k (xs ++ y ∷ [])) (k ∷ dedup_from eqb x (xs ++ y ∷ []))
    by true same other = same
    by false same other = after_first k x xs y ∙ ap (λ rest. k ∷ rest) other

pub dedup_more : (xs : List ℕ) (y : ℕ) → with_author (dedup eqb xs) y ≡ dedup eqb (xs ++ y ∷ [])
dedup_more [] y = refl
dedup_more (x ∷ xs) y = is_with_last (dedup_from eqb x xs) y ∙ dedup_from_more x xs y

module _ (t : Tables) (round : ℕ) (rs : List (Place × Digest)) (are : ArePlacesBetween t round (round + 1) rs) where
  -- the author of a place has a digest in the round
  of_round : (author : ℕ) → Contains (authors_of rs) author → HasDigest t (round, author)
  of_round author has =
      let (p, d, among, is) = at_author rs author has in
      let (low, high, found) = (are.exactly p d).0 among in
      let here : p.0.0 ≡ round = omega (arith, low, high) in
      let slot : ◌≡◌ {A = Slot} p.0 (round, author) = λ i. (here i, is i) in
      by p.1 d (subst (λ (s : Slot). get (map_of t p.1) s ≡ Some d) slot found)
    where
      by : (kind : DigestKind) (d : Digest) → get (map_of t kind) (round, author) ≡ Some d → HasDigest t (round, author)
      by First d found = inl (is_there (get t.firsts (round, author)) d found)
      by Certified d found = inr (is_there (get t.certified (round, author)) d found)

  -- an author with a digest in the round has a place
  in_round : (author : ℕ) → HasDigest t (round, author) → Contains (authors_of rs) author
  in_round author has = elim has [
    | inl first ↦ let (d, is) = which (get t.firsts (round, author)) first in of_author rs ((round, author), First) d ((are.exactly ((round, author), First) d).1 (omega arith, omega arith, is))
    | inr certified ↦ let (d, is) = which (get t.certified (round, author)) certified in of_author rs ((round, author), Certified) d ((are.exactly ((round, author), Certified) d).1 (omega arith, omega arith, is))
  ]

  of_one_round : (e : Place × Digest) → Contains rs e → e.0.0.0 ≡ round
  of_one_round e among = let here = (are.exactly e.0 e.1).0 among in omega (arith, here.0, here.1)

  -- the authors of these places, each run of one author once, are exactly the authors of the round
  pub are_authors : (ks : List ℕ) → ks ≡ dedup eqb (authors_of rs) → IsStrictlySortedBy place_cmp (keys_of rs) → AreAuthorsAt t round ks
  are_authors ks is ascending = subst (AreAuthorsAt t round) (sym is) (record {
    exactly = λ a. (
      (λ has. of_round a (Contains-from_dedup eqb (authors_of rs) a has)),
      (λ has. Contains-dedup_nat (authors_of rs) a (in_round a has)),
    );
    ascending = sorted_from_strictly_increasing (dedup eqb (authors_of rs)) (IsStrictlyIncreasing-dedup (authors_of rs) (authors_ascend round rs ascending of_one_round));
  })

-- the authors that a loop over entries has read
pub authors_more : (es : List (Bor Place × Bor Digest)) (e : Bor Place × Bor Digest) → map (λ x. x.0.now.0.1) (es ++ e ∷ []) ≡ map (λ x. x.0.now.0.1) es ++ e.0.now.0.1 ∷ []
authors_more [] e = refl
authors_more (x ∷ es) e = ap (λ rest. x.0.now.0.1 ∷ rest) (authors_more es e)

pub authors_read : (es : List (Bor Place × Bor Digest)) → map (λ x. x.0.now.0.1) es ≡ authors_of (map deref_pair es)
authors_read [] = refl
authors_read (x ∷ es) = ap (λ rest. x.0.now.0.1 ∷ rest) (authors_read es)
