-- The ancestors of one round, in order, and insertions into them.
use Rattle.nw_causal.proofs.Words.{◌≡◌, ◌⊎◌, ℕ, ◌+◌, ◌<◌, ◌≤◌, List, [], ◌∷◌, ◌++◌, Some, All, length, map, take, reverse, get_or, refl, ap, sym, ◌∙◌, subst, arith, inl, inr, Contains, nat_cmp, insert, get, length-map, All-nil, All-append, All-contains, Digest, contains_first, contains_later, contains_cases, contains_none, Ref, Block, Frozen, HasBlock, HasParent, IsClosed, IsWalk, one_block}
use Rattle.std.proofs.Common.{◌-◌, Err, drop}
use Rattle.std.specs.declared.cmp.Ordering.{Ordering}
use Rattle.std.specs.declared.cmp.Ordering.TheVariants.{Less, Equal, Greater}
use Rattle.std.specs.Ordering.{ordering_index, ordering_then}
use Rattle.std.specs.List.{AllByRecursion, HoldsAt}
use Rattle.std.specs.List.Sorted.{IsStrictlySortedBy, IsPermutation, IsNonDecreasingBy, IsPartitionPoint, IsBinarySearchResult}
use Rattle.std.proofs.lemmas.Bool.{cases_lt}
use Rattle.std.proofs.lemmas.Bool.Decides.{nat_tests}
use Rattle.std.proofs.lemmas.Cmp.{ranked}
use Rattle.std.proofs.lemmas.List.{take-append-drop, length-reverse, length-drop, length-take-le, get_or-map, get_or-take, get_or-drop, get_or-reverse}
use Rattle.std.proofs.lemmas.List.Elements.{All-cons, All-head, All-tail, All-contains_itself, All-from_recursion, All-weaker, Contains-get_or, recursion_from_All}
use Rattle.std.proofs.lemmas.List.Sorted.{All-permutation, Contains-permutation, IsPermutation-insert, IsPermutation-map, IsPermutation-reverse, IsPermutation-sym}
use Rattle.std.proofs.lemmas.Map.Keys.{Less-from_sorted, sorted_from_all_adjacent}
use Rattle.nw_model.specs.Paths.{block_cmp}
use Rattle.nw_model.proofs.Listed.{blocks_total}
use Rattle.nw_causal.specs.declared.ancestor.Ancestor.{Ancestor}
use Rattle.nw_model.proofs.Views.{last_there}
use Rattle.nw_causal.specs.Looked.{AreFound, AreUnderTheirDigests, Gains, IsLevel, blocks, descending, digests}

-- ---- the order of rounds and authors

less_by_round : (r s a b : ℕ) → r < s → ordering_then (nat_cmp r s) (nat_cmp a b) ≡ Less
less_by_round r s a b lt = grind (arith, nat_tests)

less_by_author : (r s a b : ℕ) → r ≡ s → a < b → ordering_then (nat_cmp r s) (nat_cmp a b) ≡ Less
less_by_author r s a b same lt = grind (arith, nat_tests)

author_less : (r s a b : ℕ) → r ≡ s → ordering_then (nat_cmp r s) (nat_cmp a b) ≡ Less → a < b
author_less r s a b same less = grind (arith, nat_tests)

index_falls : (n a b : ℕ) → a ≤ b → ordering_index (nat_cmp n b) ≤ ordering_index (nat_cmp n a)
index_falls n a b le = grind (arith, nat_tests)

-- ---- lists in order

module _ {K : Type 0} (R : K → K → Ordering) where
  all_with : (x : K) (xs ys : List K) (y : K) → AllByRecursion (λ z. R x z ≡ Less) (xs ++ ys) → R x y ≡ Less → AllByRecursion (λ z. R x z ≡ Less) (xs ++ y ∷ ys)
  all_with x [] ys y all here = (here, all)
  all_with x (z ∷ xs) ys y all here = (all.0, all_with x xs ys y all.1 here)

  -- an element is inserted between lower and higher ones
  sorted_with : (xs ys : List K) (y : K) → IsStrictlySortedBy R (xs ++ ys) → All (λ x. R x y ≡ Less) xs → All (λ z. R y z ≡ Less) ys → IsStrictlySortedBy R (xs ++ y ∷ ys)
  unfolding IsStrictlySortedBy
  sorted_with [] ys y sorted before after = (recursion_from_All (λ z. R y z ≡ Less) ys after, sorted)
  sorted_with (x ∷ xs) ys y sorted before after =
      (all_with x xs ys y sorted.0 (All-head (λ z. R z y ≡ Less) x xs before), sorted_with xs ys y sorted.1 (All-tail (λ z. R z y ≡ Less) x xs before) after)

  -- two sorted lists are joined
  sorted_both : (xs ys : List K) → IsStrictlySortedBy R xs → IsStrictlySortedBy R ys → All (λ x. All (λ y. R x y ≡ Less) ys) xs → IsStrictlySortedBy R (xs ++ ys)
  unfolding IsStrictlySortedBy
  sorted_both [] ys one other across = other
  sorted_both (x ∷ xs) ys one other across = (
    recursion_from_All (λ z. R x z ≡ Less) (xs ++ ys) (All-append (λ z. R x z ≡ Less) xs ys (All-from_recursion (λ z. R x z ≡ Less) xs one.0) (All-head (λ z. All (λ y. R z y ≡ Less) ys) x xs across)),
    sorted_both xs ys one.1 other (All-tail (λ z. All (λ y. R z y ≡ Less) ys) x xs across),
  )

-- ancestors of later rounds, followed by those of a round, descend
pub order_both : (v : Frozen) (round : ℕ) (found level : List Ancestor) → All (λ (a : Ancestor). round < a.block.now.round) found → IsLevel v round level → IsStrictlySortedBy descending found
    → IsStrictlySortedBy descending (found ++ level)
order_both v round found level later is order = sorted_both descending found level order is.order (λ k a lt j b within.
    let above = later k a lt in
    let here = is.rounds j b within in
    less_by_round (get_or level j b).block.now.round (get_or found k a).block.now.round (get_or level j b).block.now.author (get_or found k a).block.now.author (omega (arith, above, here)))

-- the blocks of reversed ancestors ascend
ascend : (xs : List Ancestor) → IsStrictlySortedBy descending xs → IsStrictlySortedBy block_cmp (blocks (reverse xs))
unfolding IsStrictlySortedBy
ascend [] order = tt
ascend (a ∷ rest) order = sorted_from_all_adjacent blocks_total (blocks (reverse (a ∷ rest))) a.block.now (λ k lt.
    let xs : List Ancestor = a ∷ rest in
    let within : k + 1 < length xs = omega (arith, lt, length-map (reverse xs) (λ (x : Ancestor). x.block.now), length-reverse xs) in
    let first : k < length xs = omega (arith, within) in
    rw (
      get_or-map (λ (x : Ancestor). x.block.now) (reverse xs) k a a.block.now (omega (arith, first, length-reverse xs)),
      get_or-map (λ (x : Ancestor). x.block.now) (reverse xs) (k + 1) a a.block.now (omega (arith, within, length-reverse xs)),
      get_or-reverse xs k a first,
      get_or-reverse xs (k + 1) a within,
    )
    (Less-from_sorted descending xs (length xs - 1 - (k + 1)) (length xs - 1 - k) a order (omega (arith, within)) (omega (arith, within))))

-- ---- digests and blocks of ancestors

pub among_digests : (xs : List Ancestor) (a : Ancestor) → Contains xs a → Contains (digests xs) a.digest.now
among_digests xs a (k, lt, at) =
    (k, omega (arith, lt, length-map xs (λ (x : Ancestor). x.digest.now)), get_or-map (λ (x : Ancestor). x.digest.now) xs k a a.digest.now lt ∙ ap (λ (x : Ancestor). x.digest.now) at)

pub ancestor_of : (xs : List Ancestor) (e : Digest) → Contains (digests xs) e → (a : Ancestor) × Contains xs a × (a.digest.now ≡ e)
ancestor_of [] e among = absurd (contains_none e among)
ancestor_of (x ∷ xs) e among = elim (contains_cases x.digest.now (digests xs) e among) [
  | inl same ↦ (x, contains_first x xs, same)
  | inr later ↦ let (a, below, same) = ancestor_of xs e later in (a, contains_later x xs a below, same)
]

-- the view has the ancestors' blocks under their digests
blocks_at : (v : Frozen) (xs : List Ancestor) → AllByRecursion (λ (a : Ancestor). get v.blocks a.digest.now ≡ Some a.block.now) xs → map (get v.blocks) (digests xs) ≡ map Some (blocks xs)
blocks_at v [] at = refl
blocks_at v (x ∷ xs) at =
    let first : get v.blocks x.digest.now ≡ Some x.block.now = at.0 in
    let rest : map (get v.blocks) (digests xs) ≡ map Some (blocks xs) = blocks_at v xs at.1 in
    cc

-- the blocks of the found ancestors, reversed, are the walk
pub walk_of : (v : Frozen) (d : Digest) (found : List Ancestor) → AreFound v d found → IsWalk v d (blocks (reverse found))
walk_of v d found are = record {
  digests = digests (reverse found);
  found = blocks_at v (reverse found) (recursion_from_All (λ (a : Ancestor). get v.blocks a.digest.now ≡ Some a.block.now) (reverse found)
      (All-permutation (λ (a : Ancestor). get v.blocks a.digest.now ≡ Some a.block.now) found (reverse found) (IsPermutation-reverse found) are.at));
  exactly = λ a. (
    λ among. (are.exactly a).0 (Contains-permutation (digests (reverse found)) (digests found) a (IsPermutation-sym _ _ moved) among),
    λ ancestor. Contains-permutation (digests found) (digests (reverse found)) a moved ((are.exactly a).1 ancestor),
  );
  ascending = ascend found are.order;
}
  where
    moved : IsPermutation (digests found) (digests (reverse found))
    moved = IsPermutation-map (λ (x : Ancestor). x.digest.now) found (reverse found) (IsPermutation-reverse found)

-- the view has each found ancestor's block, at or above the floor
pub found_there : (v : Frozen) (d : Digest) (found : List Ancestor) (a : Ancestor) → AreFound v d found → Contains found a → HasBlock v a.digest.now a.block.now
found_there v d found a are among =
    let at : get v.blocks a.digest.now ≡ Some a.block.now = All-contains (λ (x : Ancestor). get v.blocks x.digest.now ≡ Some x.block.now) found a are.at among in
    let (path, on) = (are.exactly a.digest.now).0 (among_digests found a among) in
    let (b, there) = last_there v d path a.digest.now on in
    (at, subst (λ (x : Block). v.floor ≤ x.round) (one_block b a.block.now there.0 at) there.1)

pub under_digests : (v : Frozen) (d : Digest) (found : List Ancestor) → AreFound v d found → AreUnderTheirDigests v (reverse found)
under_digests v d found are = All-permutation (λ (a : Ancestor). HasBlock v a.digest.now a.block.now) found (reverse found) (IsPermutation-reverse found)
    (All-weaker (Contains found) (λ (a : Ancestor). HasBlock v a.digest.now a.block.now) (λ a among. found_there v d found a are among) found (All-contains_itself found))

-- ---- one more block of a round

-- the level without ancestors, and a level with one ancestor
pub level_none : (v : Frozen) (round : ℕ) → IsLevel v round []
unfolding IsStrictlySortedBy
level_none v round = record { at = All-nil _; rounds = All-nil _; order = tt }

pub level_one : (v : Frozen) (a : Ancestor) → get v.blocks a.digest.now ≡ Some a.block.now → IsLevel v a.block.now.round (a ∷ [])
unfolding IsStrictlySortedBy
level_one v a at = record {
  at = All-cons (λ (x : Ancestor). get v.blocks x.digest.now ≡ Some x.block.now) a [] at (All-nil _);
  rounds = All-cons (λ (x : Ancestor). x.block.now.round ≡ a.block.now.round) a [] refl (All-nil _);
  order = (tt, tt);
}

-- the comparisons with an author rise along a level, as a binary search requires
rise : (v : Frozen) (round n : ℕ) (level : List Ancestor) → IsLevel v round level → IsNonDecreasingBy (λ (x : Ancestor). ordering_index (nat_cmp n x.block.now.author)) level
rise v round n level is i j d le lt = index_falls n (get_or level j d).block.now.author (get_or level i d).block.now.author (elim (cases_lt i j) [
  | inr ge ↦ let one = ap (λ k. (get_or level k d).block.now.author) (let same : i ≡ j = omega (arith, le, ge) in same) in omega (arith, one)
  | inl less ↦
      let here : i < length level = omega (arith, less, lt) in
      let lower = author_less (get_or level j d).block.now.round (get_or level i d).block.now.round (get_or level j d).block.now.author (get_or level i d).block.now.author (is.rounds j d lt ∙ sym (is.rounds i d here)) (Less-from_sorted descending level i j d is.order less lt) in
      omega (arith, lower)
])

-- a block that the search did not find is inserted at its place
pub level_more : (v : Frozen) (round p : ℕ) (level : List Ancestor) (a : Ancestor) → IsLevel v round level → get v.blocks a.digest.now ≡ Some a.block.now → a.block.now.round ≡ round → p ≤ length level
    → IsBinarySearchResult (λ (x : Ancestor). nat_cmp a.block.now.author x.block.now.author) level (Err p) → IsLevel v round (insert level p a)
level_more v round p level a is at of within searched = record {
  at = put (λ (x : Ancestor). get v.blocks x.digest.now ≡ Some x.block.now) is.at at;
  rounds = put (λ (x : Ancestor). x.block.now.round ≡ round) is.rounds of;
  order = sorted_with descending (take p level) (drop p level) a (rw (take-append-drop p level) is.order) before after;
}
  where
    put : (P : Ancestor → Type 0) → All P level → P a → All P (insert level p a)
    put P all here = All-permutation P (a ∷ level) (insert level p a) (IsPermutation-insert level p a) (All-cons P a level here all)

    parted : IsPartitionPoint (λ (x : Ancestor). nat_cmp a.block.now.author x.block.now.author ≡ Less) (λ (x : Ancestor). nat_cmp a.block.now.author x.block.now.author ≡ Greater) level p
    parted = searched (rise v round a.block.now.author level is)

    before : All (λ (x : Ancestor). descending x a ≡ Less) (take p level)
    before k d lt =
        let less : k < p = omega (arith, lt, length-take-le p level within) in
        let x : Ancestor = get_or level k d in
        rw (get_or-take p level k d less) (less_by_author a.block.now.round x.block.now.round a.block.now.author x.block.now.author (of ∙ sym (is.rounds k d (omega (arith, less, within))))
        (ranked a.block.now.author x.block.now.author Less (sym (parted.0 k d (omega arith) less))))

    after : All (λ (x : Ancestor). descending a x ≡ Less) (drop p level)
    after k d lt =
        let there : p + k < length level = omega (arith, lt, length-drop p level) in
        let x : Ancestor = get_or level (p + k) d in
        rw (get_or-drop p level k d) (less_by_author x.block.now.round a.block.now.round x.block.now.author a.block.now.author (is.rounds (p + k) d there ∙ sym of)
        (ranked a.block.now.author x.block.now.author Greater (sym (parted.1 (p + k) d (omega arith) there))))

pub gains_more : (level : List Ancestor) (p : ℕ) (a : Ancestor) (e : Digest) → a.digest.now ≡ e → Gains (λ f. e ≡ f) level (insert level p a)
gains_more level p a e is f = (
  λ among. elim (contains_cases a.digest.now (digests level) f (Contains-permutation (digests (insert level p a)) (digests (a ∷ level)) f (IsPermutation-sym _ _ moved) among)) [
    | inl here ↦ inr (sym is ∙ here)
    | inr before ↦ inl before
  ],
  λ either. Contains-permutation (digests (a ∷ level)) (digests (insert level p a)) f moved (elim either [
    | inl before ↦ contains_later a.digest.now (digests level) f before
    | inr here ↦ subst (λ q. Contains (a.digest.now ∷ digests level) q) (is ∙ here) (contains_first a.digest.now (digests level))
  ]),
)
  where
    moved : IsPermutation (digests (a ∷ level)) (digests (insert level p a))
    moved = IsPermutation-map (λ (x : Ancestor). x.digest.now) (a ∷ level) (insert level p a) (IsPermutation-insert level p a)

-- if the search finds the author, the level has the referenced block already
pub gains_none : (v : Frozen) (round k : ℕ) (level : List Ancestor) (r : Ref) → IsClosed v → v.floor ≤ round → IsLevel v round level → HasParent v.blocks (round + 1) r → k < length level
    → HoldsAt (λ (x : Ancestor). nat_cmp r.author x.block.now.author ≡ Equal) level k → Gains (λ f. r.digest ≡ f) level level
gains_none v round k [] r closed floor is parent lt equal e = absurd (omega (arith, lt))
gains_none v round k (d ∷ others) r closed floor is (b, at, by, before) lt equal e = (
  λ among. inl among,
  λ either. elim either [
    | inl among ↦ among
    | inr same ↦ subst (λ q. Contains (digests (d ∷ others)) q) same here
  ],
)
  where
    here : Contains (digests (d ∷ others)) r.digest
    here =
        let x : Ancestor = get_or (d ∷ others) k d in
        let rounds : x.block.now.round ≡ b.round = omega (arith, is.rounds k d lt, before) in
        let authors : x.block.now.author ≡ b.author = sym (by ∙ ranked r.author x.block.now.author Equal (sym (equal d))) in
        subst (λ q. Contains (digests (d ∷ others)) q) (closed.apart x.digest.now r.digest x.block.now b (is.at k d lt) at (omega (arith, is.rounds k d lt, floor)) (λ i. (rounds i, authors i)))
        (among_digests (d ∷ others) x (Contains-get_or (d ∷ others) k d lt))

-- two gains, one after the other
pub gains_on : (P Q R : Digest → Type 0) (a b c : List Ancestor) → Gains P a b → Gains Q b c → ((e : Digest) → (R e → P e ⊎ Q e) × (P e ⊎ Q e → R e)) → Gains R a c
gains_on P Q R a b c one two both e = (
  λ among. elim ((two e).0 among) [
    | inl before ↦ elim ((one e).0 before) [
      | inl first ↦ inl first
      | inr p ↦ inr ((both e).1 (inl p))
    ]
    | inr q ↦ inr ((both e).1 (inr q))
  ],
  λ either. elim either [
    | inl first ↦ (two e).1 (inl ((one e).1 (inl first)))
    | inr r ↦ elim ((both e).0 r) [
      | inl p ↦ (two e).1 (inl ((one e).1 (inr p)))
      | inr q ↦ (two e).1 (inr q)
    ]
  ],
)

-- the ancestor at a place of a level
pub record IsChild (v : Frozen) (round i : ℕ) (level : List Ancestor) (a : Ancestor) (b : Block) : Type 0 where
  pub within : i < length (digests level)
  pub at : get v.blocks (get_or (digests level) i a.digest.now) ≡ Some b
  pub of : b.round ≡ round

pub child_is : (v : Frozen) (round i : ℕ) (level : List Ancestor) (a : Ancestor) (b : Block) → IsLevel v round level → i < length level → a ≡ get_or level i a → b ≡ a.block.now → IsChild v round i level a b
child_is v round i level a b level_is lt is is_b = record {
  within = omega (arith, lt, length-map level (λ (x : Ancestor). x.digest.now));
  at = ap (get v.blocks) (get_or-map (λ (x : Ancestor). x.digest.now) level i a a.digest.now lt) ∙ level_is.at i a lt ∙ ap (λ (x : Ancestor). Some x.block.now) (sym is) ∙ ap Some (sym is_b);
  of = ap (λ (x : Block). x.round) is_b ∙ ap (λ (x : Ancestor). x.block.now.round) is ∙ level_is.rounds i a lt;
}
