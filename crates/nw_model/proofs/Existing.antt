-- Each digest of a sound state has one causal list.
use Rattle.nw_model.proofs.Words.{◌≡◌, ◌↔◌, List, [], ◌∷◌, Some, is_some, map, refl, ap, sym, ◌∙◌, subst, inl, inr, Contains, filter, AllByRecursion, IsTotalOrder, option_map_or, Ordering, Less, FinMap, get, keys, contains_key-keys, on_total, Digest, Block, digest_cmp, Slot, slot_cmp, slots_total, slots_apart, same_digest, contains_first, contains_later, contains_cases, contains_filter, which}
use Rattle.std.specs.List.Sorted.{IsStrictlySortedBy}
use Rattle.std.specs.Ordering.{match_ordering, ordering_reverse}
use Rattle.std.specs.BTreeSet.{insert_key}
use Rattle.std.specs.declared.cmp.Ordering.TheVariants.{Equal, Greater}
use Rattle.std.proofs.lemmas.Map.Views.{Contains-from_any}
use Rattle.nw_model.specs.State.{State, block_slot}
use Rattle.nw_model.specs.Sound.{IsSound}
use Rattle.nw_model.specs.Paths.{IsStanding, IsPath, IsAncestor, IsCausalList, Lists}
use Rattle.nw_model.specs.Laws.{CompleteDigestsHaveOneCausalList}
use Rattle.nw_model.proofs.Listed.{same_lists}
use Rattle.nw_model.proofs.Contained.{is_ancestor_decided, holds, holds_so, so_holds}
use Rattle.nw_model.proofs.Walked.{ascending_by_slot}

-- ---- sorting a list

module _ {K : Type 0} {R : K → K → Ordering} (o : IsTotalOrder R) where
  -- if P holds of a key and of each key of a list, it holds of each key after the insertion
  put_each : (P : K → Type 0) (x : K) (ys : List K) → P x → AllByRecursion P ys → AllByRecursion P (insert_key R ys x)
  put_each P x [] p all = (p, tt)
  put_each P x (y ∷ ys) p all = by (R x y) (put_each P x ys p all.1)
    where
      by : (r : Ordering) → AllByRecursion P (insert_key R ys x) → AllByRecursion P (match_ordering r (x ∷ y ∷ ys) (y ∷ ys) (y ∷ insert_key R ys x))
      by Less rest = (p, all)
      by Equal rest = all
      by Greater rest = (all.0, rest)

  -- a key below the first key of a list in order is below all of its keys
  below_each : (x y : K) (ys : List K) → R x y ≡ Less → AllByRecursion (λ z. R y z ≡ Less) ys → AllByRecursion (λ z. R x z ≡ Less) ys
  below_each x y [] less all = tt
  below_each x y (z ∷ zs) less all = (o.trans x y z less all.0, below_each x y zs less all.1)

  -- inserting a key keeps a list in order
  put_sorted : (x : K) (ys : List K) → IsStrictlySortedBy R ys → IsStrictlySortedBy R (insert_key R ys x)
  unfolding IsStrictlySortedBy
  put_sorted x [] sorted = (tt, tt)
  put_sorted x (y ∷ ys) sorted = by (R x y) refl (put_sorted x ys sorted.1)
    where
      by : (r : Ordering) → R x y ≡ r → IsStrictlySortedBy R (insert_key R ys x) → IsStrictlySortedBy R (match_ordering r (x ∷ y ∷ ys) (y ∷ ys) (y ∷ insert_key R ys x))
      by Less is rest = ((is, below_each x y ys is sorted.0), sorted)
      by Equal is rest = sorted
      by Greater is rest = (put_each (λ z. R y z ≡ Less) x ys (o.antisymm y x ∙ ap ordering_reverse is) sorted.0, rest)

  -- inserting a key adds it, if no other key compares as equal to it
  put_contains : (x : K) (ys : List K) → ((y : K) → Contains ys y → R x y ≡ Equal → x ≡ y) → (z : K) → Contains (insert_key R ys x) z ↔ Contains (x ∷ ys) z
  put_contains x [] alone z = (λ among. among, λ among. among)
  put_contains x (y ∷ ys) alone z = by (R x y) refl (put_contains x ys (λ w among. alone w (contains_later y ys w among)) z)
    where
      by : (r : Ordering) → R x y ≡ r → Contains (insert_key R ys x) z ↔ Contains (x ∷ ys) z
          → Contains (match_ordering r (x ∷ y ∷ ys) (y ∷ ys) (y ∷ insert_key R ys x)) z ↔ Contains (x ∷ y ∷ ys) z
      by Less is rest = (λ among. among, λ among. among)
      by Equal is rest = (
        λ among. contains_later x (y ∷ ys) z among,
        λ among. elim (contains_cases x (y ∷ ys) z among) [
          | inl same ↦ subst (λ w. Contains (y ∷ ys) w) (sym (alone y (contains_first y ys) is) ∙ same) (contains_first y ys)
          | inr later ↦ later
        ],
      )
      by Greater is rest = (
        λ among. elim (contains_cases y (insert_key R ys x) z among) [
          | inl same ↦ contains_later x (y ∷ ys) z (subst (λ w. Contains (y ∷ ys) w) same (contains_first y ys))
          | inr later ↦ elim (contains_cases x ys z (rest.0 later)) [
            | inl first ↦ subst (λ w. Contains (x ∷ y ∷ ys) w) first (contains_first x (y ∷ ys))
            | inr on ↦ contains_later x (y ∷ ys) z (contains_later y ys z on)
          ]
        ],
        λ among. elim (contains_cases x (y ∷ ys) z among) [
          | inl first ↦ contains_later y (insert_key R ys x) z (rest.1 (subst (λ w. Contains (x ∷ ys) w) first (contains_first x ys)))
          | inr later ↦ elim (contains_cases y ys z later) [
            | inl same ↦ subst (λ w. Contains (y ∷ insert_key R ys x) w) same (contains_first y (insert_key R ys x))
            | inr on ↦ contains_later y (insert_key R ys x) z (rest.1 (contains_later x ys z on))
          ]
        ],
      )

  -- a list of keys can be sorted if no two of them compare as equal
  in_order : (xs : List K) → ((x y : K) → Contains xs x → Contains xs y → R x y ≡ Equal → x ≡ y) → (ys : List K) × IsStrictlySortedBy R ys × ((z : K) → Contains ys z ↔ Contains xs z)
  unfolding IsStrictlySortedBy
  in_order [] apart = ([], tt, λ z. (λ among. among, λ among. among))
  in_order (x ∷ xs) apart =
      let rest = in_order xs (λ y z at_y at_z. apart y z (contains_later x xs y at_y) (contains_later x xs z at_z)) in
      let put = put_contains x rest.0 (λ y among. apart x y (contains_first x xs) (contains_later x xs y ((rest.2 y).0 among))) in (
        insert_key R rest.0 x,
        put_sorted x rest.0 rest.1,
        λ z. (
          λ among. elim (contains_cases x rest.0 z ((put z).0 among)) [
            | inl first ↦ subst (λ w. Contains (x ∷ xs) w) first (contains_first x xs)
            | inr later ↦ contains_later x xs z ((rest.2 z).0 later)
          ],
          λ among. (put z).1 (elim (contains_cases x xs z among) [
            | inl first ↦ subst (λ w. Contains (x ∷ rest.0) w) first (contains_first x rest.0)
            | inr later ↦ contains_later x rest.0 z ((rest.2 z).1 later)
          ]),
        ),
      )

-- ---- the digests of blocks, by slot

-- the slot of the block under the digest
abbrev slot_under : FinMap digest_cmp Block → Digest → Slot
slot_under held d = option_map_or block_slot (get held d) (0, 0)

-- digests by the slots of their blocks
abbrev by_slot : FinMap digest_cmp Block → Digest → Digest → Ordering
by_slot held d e = slot_cmp (slot_under held d) (slot_under held e)

-- the blocks of a list of digests
blocks_under : (held : FinMap digest_cmp Block) (digests : List Digest) → ((a : Digest) → Contains digests a → (b : Block) × (get held a ≡ Some b)) → (blocks : List Block) × (map (get held) digests ≡ map Some blocks)
blocks_under held [] there = ([], refl)
blocks_under held (d ∷ digests) there =
    let first = there d (contains_first d digests) in
    let rest = blocks_under held digests (λ a among. there a (contains_later d digests a among)) in
    let head : get held d ≡ Some first.0 = first.1 in
    let tail : map (get held) digests ≡ map Some rest.0 = rest.1 in
    (first.0 ∷ rest.0, cc)

slots_under : (held : FinMap digest_cmp Block) (digests : List Digest) (blocks : List Block) → map (get held) digests ≡ map Some blocks → map (slot_under held) digests ≡ map block_slot blocks
slots_under held [] [] found = refl
slots_under held [] (b ∷ blocks) found = absurd cc
slots_under held (d ∷ digests) [] found = absurd cc
slots_under held (d ∷ digests) (b ∷ blocks) found =
    let head : get held d ≡ Some b = cc in
    let tail : map (get held) digests ≡ map Some blocks = cc in
    let slot : slot_under held d ≡ block_slot b = ap (λ q. option_map_or block_slot q (0, 0)) head in
    let rest : map (slot_under held) digests ≡ map block_slot blocks = slots_under held digests blocks tail in
    cc

below_slots : (held : FinMap digest_cmp Block) (d : Digest) (digests : List Digest) → AllByRecursion (λ e. by_slot held d e ≡ Less) digests → AllByRecursion (λ q. slot_cmp (slot_under held d) q ≡ Less) (map (slot_under held) digests)
below_slots held d [] all = tt
below_slots held d (e ∷ digests) all = (all.0, below_slots held d digests all.1)

slots_ascend : (held : FinMap digest_cmp Block) (digests : List Digest) → IsStrictlySortedBy (by_slot held) digests → IsStrictlySortedBy slot_cmp (map (slot_under held) digests)
unfolding IsStrictlySortedBy
slots_ascend held [] sorted = tt
slots_ascend held (d ∷ digests) sorted = (below_slots held d digests sorted.0, slots_ascend held digests sorted.1)

-- ---- the ancestors of a digest

-- the last digest of a path stands
last_stands : (s : State) (d : Digest) (path : List Digest) (a : Digest) → IsPath s d path a → (b : Block) × IsStanding s a b
last_stands s d [] a on = (on.0.0, subst (λ q. IsStanding s q on.0.0) on.1 on.0.1)
last_stands s d (e ∷ path) a on = last_stands s e path a on.1

-- in a sound state, two digests that stand with blocks of one slot are equal
one_standing : (s : State) (x y : Digest) (b c : Block) → IsSound s → IsStanding s x b → IsStanding s y c → by_slot s.blocks x y ≡ Equal → x ≡ y
one_standing s x y b c sound at_x at_y tied =
    let of_x = which (get s.certificates x) at_x.1 in
    let of_y = which (get s.certificates y) at_y.1 in
    let slot_x : slot_under s.blocks x ≡ block_slot b = ap (λ q. option_map_or block_slot q (0, 0)) at_x.0 in
    let slot_y : slot_under s.blocks y ≡ block_slot c = ap (λ q. option_map_or block_slot q (0, 0)) at_y.0 in
    let same : slot_under s.blocks x ≡ slot_under s.blocks y = slots_apart (slot_under s.blocks x) (slot_under s.blocks y) tied in
    sound.one_certificate x y of_x.0 of_y.0 of_x.1 of_y.1 (sym (sound.one_slot x b of_x.0 at_x.0 of_x.1) ∙ sym slot_x ∙ same ∙ slot_y ∙ sound.one_slot y c of_y.0 at_y.0 of_y.1)

-- a digest under which a block is held is among the keys
pub held_among : (held : FinMap digest_cmp Block) (a : Digest) (b : Block) → get held a ≡ Some b → Contains (keys held) a
held_among held a b at = Contains-from_any same_digest a (keys held) (sym (contains_key-keys held a) ∙ ap is_some at)

-- the ancestors of a digest can be listed
ancestors_listed : (s : State) (d : Digest) → (digests : List Digest) × ((a : Digest) → Contains digests a ↔ IsAncestor s d a)
ancestors_listed s d = (
  filter (λ a. holds (is_ancestor_decided s d a)) (keys s.blocks),
  λ a. (
    λ among. holds_so (is_ancestor_decided s d a) ((contains_filter (λ q. holds (is_ancestor_decided s d q)) (keys s.blocks) a).0 among).1,
    λ ancestor.
        let last = last_stands s d ancestor.0 a ancestor.1 in
        (contains_filter (λ q. holds (is_ancestor_decided s d q)) (keys s.blocks) a).1 (held_among s.blocks a last.0 last.1.0, so_holds (is_ancestor_decided s d a) ancestor),
  ),
)

-- the blocks of digests that are in order by slot are a list
lists : (held : FinMap digest_cmp Block) (P : Digest → Type 0) (digests : List Digest) (blocks : List Block) → ((a : Digest) → Contains digests a ↔ P a) → IsStrictlySortedBy (by_slot held) digests
    → map (get held) digests ≡ map Some blocks → Lists held P blocks
lists held P digests blocks are sorted found = record {
  digests = digests;
  found = found;
  exactly = are;
  ascending = ascending_by_slot blocks (subst (λ slots. IsStrictlySortedBy slot_cmp slots) (slots_under held digests blocks found) (slots_ascend held digests sorted));
}

-- a digest of a sound state has a causal list
pub causal_list_exists : (s : State) (d : Digest) → IsSound s → (blocks : List Block) × IsCausalList s d blocks
causal_list_exists s d sound =
    let listed = ancestors_listed s d in
    let stands : (a : Digest) → Contains listed.0 a → (b : Block) × IsStanding s a b = λ a among. let ancestor = (listed.1 a).0 among in last_stands s d ancestor.0 a ancestor.1 in
    let sorted = in_order (on_total (slot_under s.blocks) slots_total) listed.0 (λ x y at_x at_y tied. one_standing s x y (stands x at_x).0 (stands y at_y).0 sound (stands x at_x).1 (stands y at_y).1 tied) in
    let under = blocks_under s.blocks sorted.0 (λ a among. let of_a = stands a ((sorted.2 a).0 among) in (of_a.0, of_a.1.0)) in
    (under.0, lists s.blocks (IsAncestor s d) sorted.0 under.0 (λ a. (λ among. (listed.1 a).0 ((sorted.2 a).0 among), λ ancestor. (sorted.2 a).1 ((listed.1 a).1 ancestor))) sorted.1 under.1)

-- a complete digest of a sound state has only one causal list
pub one_causal_list : CompleteDigestsHaveOneCausalList
one_causal_list s d sound whole =
    let there = causal_list_exists s d sound in
    (there.0, there.1, λ others other. same_lists s.blocks (IsAncestor s d) others there.0 other there.1)
