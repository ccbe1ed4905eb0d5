-- The blocks of the found digests, in the order of their slots.
use Rattle.nw_model.proofs.Words.{◌≡◌, ℕ, ◌<◌, List, [], ◌∷◌, Some, length, get_or, map, refl, ap, sym, ◌∙◌, subst, arith, inl, inr, ◌++◌, Contains, Less, eq_by_cmp_equiv, AllByRecursion, keys_of, is_at, get, from_entries, recursion_from_All, IsDistinct-from_sorted, none-some, same_Some, Digest, Block, Slot, slot_cmp, get_lookup, slots_total}
use Rattle.std.proofs.Common.{All, Bor}
use Rattle.std.specs.List.{slice_get}
use Rattle.std.specs.List.Sorted.{IsStrictlySortedBy}
use Rattle.std.specs.Map.{values_of}
use Rattle.std.specs.Map.Iter.{deref}
use Rattle.std.proofs.lemmas.List.{get_or-map, map-append}
use Rattle.std.proofs.lemmas.Map.Entries.{lookup_from_place, place_from_lookup, length-values_of}
use Rattle.std.proofs.lemmas.Option.{slice_get-get_or, get_or_from_slice_get, slice_get_cases}
use Rattle.nw_model.specs.State.{block_slot}
use Rattle.nw_model.specs.Paths.{block_cmp}
use Rattle.nw_model.specs.View.{Frozen, IsWalk}
use Rattle.nw_model.specs.Search.{IsUnderSlot, FindsAncestors}

-- ---- entries in order

-- each entry is found
each_found : (es : List (Slot × Digest)) → IsStrictlySortedBy slot_cmp (keys_of es) → All (λ e. get (from_entries {R = slot_cmp} es) e.0 ≡ Some e.1) es
each_found es sorted k d lt =
    let e : Slot × Digest = get_or es k d in
    get_lookup slots_total es e.0
    ∙ lookup_from_place (eq_by_cmp_equiv slots_total) es k e.0 e.1 (IsDistinct-from_sorted slot_cmp (keys_of es) sorted) (slice_get-get_or es k d lt)

-- a found digest is among the values
found_among : (es : List (Slot × Digest)) (q : Slot) (a : Digest) → get (from_entries {R = slot_cmp} es) q ≡ Some a → Contains (values_of es) a
found_among es q a at =
    let place = place_from_lookup (is_at (slot_cmp q)) es a (sym (get_lookup slots_total es q) ∙ at) in
    let e : Slot × Digest = (place.1, a) in
    let within : place.0 < length es = in_range place.0 e place.2 in
    (place.0, omega (arith, within, length-values_of es), get_or-map (λ (x : Slot × Digest). x.1) es place.0 e a within ∙ ap (λ (x : Slot × Digest). x.1) (get_or_from_slice_get es place.0 e e place.2))
  where
    in_range : (i : ℕ) (e : Slot × Digest) → slice_get es i ≡ Some e → i < length es
    in_range i e is = elim ((slice_get_cases es i).1) [
      | inl (x, lt, at, same) ↦ lt
      | inr (past, none) ↦ absurd (none-some e (sym none ∙ is))
    ]

-- each of the values is found
among_found : (es : List (Slot × Digest)) (a : Digest) → IsStrictlySortedBy slot_cmp (keys_of es) → Contains (values_of es) a → (q : Slot) × (get (from_entries {R = slot_cmp} es) q ≡ Some a)
among_found es a sorted (k, lt, at) =
    let none : Slot × Digest = ((0, 0), a) in
    let within : k < length es = omega (arith, lt, length-values_of es) in
    let e : Slot × Digest = get_or es k none in
    (e.0, each_found es sorted k none within ∙ ap Some (sym (get_or-map (λ (x : Slot × Digest). x.1) es k none a within) ∙ at))

-- ---- blocks in order

-- the blocks under the values have the keys as their slots
same_slots : (v : Frozen) (es : List (Slot × Digest)) (blocks : List Block) → AllByRecursion (λ e. IsUnderSlot v e.0 e.1) es → map (get v.blocks) (values_of es) ≡ map Some blocks → map block_slot blocks ≡ keys_of es
same_slots v [] [] under is = refl
same_slots v [] (b ∷ bs) under is = absurd cc
same_slots v (e ∷ es) [] under is = absurd cc
same_slots v (e ∷ es) (b ∷ bs) under is =
    let head : get v.blocks e.1 ≡ Some b = cc in
    let tail : map (get v.blocks) (values_of es) ≡ map Some bs = cc in
    let here = under.0 in
    let one : here.0 ≡ b = same_Some here.0 b (sym here.1.0 ∙ head) in
    let slot : block_slot b ≡ e.0 = ap block_slot (sym one) ∙ here.2 in
    let rest : map block_slot bs ≡ keys_of es = same_slots v es bs under.1 tail in
    cc

below_all : (b : Block) (bs : List Block) → AllByRecursion (λ q. slot_cmp (block_slot b) q ≡ Less) (map block_slot bs) → AllByRecursion (λ c. block_cmp b c ≡ Less) bs
below_all b [] h = tt
below_all b (c ∷ cs) h = (h.0, below_all b cs h.1)

-- blocks ascend if their slots ascend
pub ascending_by_slot : (bs : List Block) → IsStrictlySortedBy slot_cmp (map block_slot bs) → IsStrictlySortedBy block_cmp bs
unfolding IsStrictlySortedBy
ascending_by_slot [] h = tt
ascending_by_slot (b ∷ bs) h = (below_all b bs h.0, ascending_by_slot bs h.1)

-- the view has the block of each found digest
pub values_there : (v : Frozen) (d : Digest) (es : List (Slot × Digest)) → IsStrictlySortedBy slot_cmp (keys_of es) → FindsAncestors v d (from_entries es) → (a : Digest) → Contains (values_of es) a → (b : Block) × (get v.blocks a ≡ Some b)
values_there v d es sorted reaches a among =
    let found = among_found es a sorted among in
    let under = reaches.under found.0 a found.1 in
    (under.0, under.1.0)

-- the blocks under the values are the walk
pub walked : (v : Frozen) (d : Digest) (es : List (Slot × Digest)) (blocks : List Block) → IsStrictlySortedBy slot_cmp (keys_of es) → FindsAncestors v d (from_entries es) → map (get v.blocks) (values_of es) ≡ map Some blocks
    → IsWalk v d blocks
walked v d es blocks sorted reaches is = record {
  digests = values_of es;
  found = is;
  exactly = λ a. (
    λ among. let found = among_found es a sorted among in reaches.only found.0 a found.1,
    λ ancestor. let (b, at, here) = reaches.each a ancestor in found_among es (block_slot b) a here,
  );
  ascending = ascending_by_slot blocks (subst (λ ks. IsStrictlySortedBy slot_cmp ks) (sym (same_slots v es blocks under is)) sorted);
}
  where
    under : AllByRecursion (λ e. IsUnderSlot v e.0 e.1) es
    under = recursion_from_All (λ e. IsUnderSlot v e.0 e.1) es (λ k e lt. reaches.under (get_or es k e).0 (get_or es k e).1 (each_found es sorted k e lt))

-- ---- one block after the other

-- one more value
pub walk_on : (v : Frozen) (xs : List (Bor Digest)) (x : Bor Digest) (bs : List Block) (b : Block) → map (get v.blocks) (map deref xs) ≡ map Some bs → get v.blocks x.now ≡ Some b
    → map (get v.blocks) (map deref (xs ++ x ∷ [])) ≡ map Some (bs ++ b ∷ [])
walk_on v xs x bs b so_far at = simp map-append (cc)

-- the iterator gives the values
pub turn_among : (values : List Digest) (i : ℕ) (x : Digest) → i < length values → slice_get values i ≡ Some x → Contains values x
turn_among values i x lt is = (i, lt, get_or_from_slice_get values i x x is)
