-- The number of blocks that a collection drops.
use Rattle.nw_state.proofs.Words.{◌≡◌, ℕ, Bool, true, false, not, cond, List, [], ◌∷◌, filter, length, Option, Some, None, IsSome, is_some, refl, ap, sym, ◌∙◌, subst, arith, inl, inr, Contains, nat_lt, AllByRecursion, eq_by_cmp, eq_by_cmp_equiv, keys_of, lookup, is_at, get, len, from_entries, IsDistinct-from_sorted, Digest, Block, Certificate, Tables, digest_cmp, Slot, State, block_slot, raised, one_block, some_none, contains_cases, contains_none, digests_total, get_lookup, len_sorted, same_digest, which}
use Rattle.std.proofs.Common.{◌-◌, ◌<◌}
use Rattle.std.specs.List.{IsDistinct}
use Rattle.std.specs.Map.{values_of}
use Rattle.std.proofs.lemmas.List.Elements.{All-contains, All-from_recursion}
use Rattle.std.proofs.lemmas.Map.Entries.{option_filter, lookup-filter-values, length-keys_of, length-values_of}
use Rattle.std.proofs.lemmas.Map.Keys.{IsDistinct-cons, IsDistinct-head, IsDistinct-tail}
use Rattle.std.proofs.lemmas.Map.Made.{length-le_from_is_member, Contains-from_values_of, Contains-values_of, IsDistinct-keys_filter}
use Rattle.std.proofs.lemmas.Map.Steps.{length-le_from_keys}
use Rattle.std.proofs.lemmas.Map.Views.{Contains-from_any, list_any-from_Contains, IsSome-lookup_from_Contains}
use Rattle.std.proofs.lemmas.Bool.{true≢false}
use Rattle.nw_rounds.specs.declared.kind.DigestKind.{DigestKind}
use Rattle.nw_rounds.specs.declared.kind.DigestKind.TheVariants.{First, Certified}
use Rattle.nw_rounds.specs.Places.{ArePlacesBetween, Place, place_cmp}
use Rattle.nw_rounds.proofs.SlotLemmas.{places_total}
use Rattle.nw_digest.proofs.Elements.{contains_first, contains_later, contains_filter}
use Rattle.nw_state.specs.StateTables.{AreStateTables, state_of}
use Rattle.nw_state.specs.Collection.{counts_at}
use Rattle.nw_state.proofs.HeldRaised.{certified_slot}
use Rattle.nw_state.proofs.Opening.{none_once}
use Rattle.nw_state.proofs.Dropped.{both_counts, count_kept}

is_lower : (a b : ℕ) → a < b → nat_lt a b ≡ true
is_lower a b h = grind arith

lower_is : (a b : ℕ) → nat_lt a b ≡ true → a < b
lower_is a b e = grind arith

-- the kind under which a digest with this certificate, if any, is counted
abbrev kind_for : Option Certificate → DigestKind
kind_for None = First
kind_for (Some c) = Certified

not_certified : (found : Option Certificate) → not (is_some found) ≡ true → First ≡ kind_for found
not_certified None e = refl
not_certified (Some c) e = cc

-- ---- the digests of places

-- if no entry has the value, the value does not compare as equal to any entry's value
no_other : (d : Digest) (es : List (Place × Digest)) → ((p : Place) → Contains es (p, d) → ⊥) → AllByRecursion (λ y. eq_by_cmp digest_cmp d y ≡ false) (values_of es)
no_other d [] none = tt
no_other d (e ∷ es) none = (
  is_false (eq_by_cmp digest_cmp d e.1) (λ tied. none e.0 (subst (λ y. Contains (e ∷ es) (e.0, y)) (sym (same_digest d e.1 tied)) (contains_first e es))),
  no_other d es (λ p among. none p (contains_later e es (p, d) among)),
)
  where
    is_false : (b : Bool) → (b ≡ true → ⊥) → b ≡ false
    is_false true never = absurd (never refl)
    is_false false never = refl

key_among : (es : List (Place × Digest)) (p : Place) (d : Digest) → Contains es (p, d) → Contains (keys_of es) p
key_among [] p d among = absurd (contains_none (p, d) among)
key_among (e ∷ es) p d among = elim (contains_cases e es (p, d) among) [
  | inl same ↦ subst (λ (x : Place × Digest). Contains (keys_of (e ∷ es)) x.0) same (contains_first e.0 (keys_of es))
  | inr later ↦ contains_later e.0 (keys_of es) p (key_among es p d later)
]

-- the digests of places do not repeat if each digest has only one place
digests_once : (es : List (Place × Digest)) → IsDistinct (eq_by_cmp place_cmp) (keys_of es) → ((p q : Place) (d : Digest) → Contains es (p, d) → Contains es (q, d) → p ≡ q) → IsDistinct (eq_by_cmp digest_cmp) (values_of es)
digests_once [] once one = none_once
digests_once (e ∷ es) once one =
    IsDistinct-cons (eq_by_cmp digest_cmp) e.1 (values_of es) (no_other e.1 es (λ p among.
    let same : e.0 ≡ p = one e.0 p e.1 (contains_first e es) (contains_later e es (p, e.1) among) in
    let apart = All-contains (λ y. eq_by_cmp place_cmp e.0 y ≡ false) (keys_of es) p (All-from_recursion _ (keys_of es) (IsDistinct-head (eq_by_cmp place_cmp) e.0 (keys_of es) once)) (key_among es p e.1 among) in
    true≢false (sym ((eq_by_cmp_equiv places_total).refl e.0) ∙ ap (eq_by_cmp place_cmp e.0) same ∙ apart)))
    (digests_once es (IsDistinct-tail (eq_by_cmp place_cmp) e.0 (keys_of es) once) (λ p q d first second. one p q d (contains_later e es (p, d) first) (contains_later e es (q, d) second)))

module _ (blocks : List (Digest × Block)) (certificates : List (Digest × Certificate)) (slots : Tables) (floor : ℕ) (held : AreStateTables blocks certificates slots floor) (round : ℕ)
    (places : List (Place × Digest)) (are : ArePlacesBetween slots 0 round places) where
  abbrev s : State
  s = state_of blocks certificates slots floor

  abbrev test : Place × Digest → Bool
  test e = counts_at s e.0.1 e.1

  abbrev counted : List (Place × Digest)
  counted = filter test places

  -- the place at which the block under d is counted
  abbrev home : Digest → Block → Place
  home d b = (block_slot b, kind_for (get s.certificates d))

  -- a counted digest has its block's place
  at_home : (p : Place) (d : Digest) → Contains counted (p, d) → (b : Block) × (get s.blocks d ≡ Some b) × (b.round < round) × (p ≡ home d b)
  at_home (slot, First) d among =
      let both = (contains_filter test places ((slot, First), d)).0 among in
      let is = (are.exactly (slot, First) d).0 both.0 in
      let (b, there, here) = held.voted slot d is.2 in
      let kind : First ≡ kind_for (get s.certificates d) = not_certified (get s.certificates d) both.1 in
      (b, there, omega (arith, is.1, ap (λ (q : Slot). q.0) here), λ i. (sym here i, kind i))
  at_home (slot, Certified) d among =
      let both = (contains_filter test places ((slot, Certified), d)).0 among in
      let is = (are.exactly (slot, Certified) d).0 both.0 in
      let (b, there) = which (get s.blocks d) both.1 in
      let here : block_slot b ≡ slot = certified_slot blocks certificates slots floor held slot d b is.2 there in
      let (c, kept, at) = (held.kept.indexed slot d).0 is.2 in
      (b, there, omega (arith, is.1, ap (λ (q : Slot). q.0) here), λ i. (sym here i, kind_for (sym kept i)))

  -- the digest of a dropped block is counted at its block's place
  home_counted : (d : Digest) (b : Block) → get s.blocks d ≡ Some b → b.round < round → Contains counted (home d b, d)
  home_counted d b there low = by (get s.certificates d) refl
    where
      by : (found : Option Certificate) → get s.certificates d ≡ found → Contains counted ((block_slot b, kind_for found), d)
      by None is = elim (held.listed d b there) [
        | inl first ↦ (contains_filter test places ((block_slot b, First), d)).1 ((are.exactly (block_slot b, First) d).1 (omega arith, low, first), ap (λ found. not (is_some found)) is)
        | inr certified ↦ let (c, at, here) = (held.kept.indexed (block_slot b) d).0 certified in absurd (some_none c (sym at ∙ is))
      ]
      by (Some c) is =
          (contains_filter test places ((block_slot b, Certified), d)).1
          ((are.exactly (block_slot b, Certified) d).1 (omega arith, low, (held.kept.indexed (block_slot b) d).1 (c, is, sym (held.kept.sound.one_slot d b c there is))), ap is_some there)

  abbrev low : List Digest
  low = values_of counted

  low_once : IsDistinct (eq_by_cmp digest_cmp) low
  low_once = digests_once counted (IsDistinct-keys_filter (eq_by_cmp place_cmp) test places are.once) (λ p q d first second.
      let (b, there, lower, is) = at_home p d first in
      let (c, same, below, also) = at_home q d second in
      is ∙ ap (home d) (one_block b c there same) ∙ sym also)

  abbrev is_dropped : Block → Bool
  is_dropped b = nat_lt b.round round

  abbrev dropped : List (Digest × Block)
  dropped = filter (λ e. is_dropped e.1) blocks

  at_dropped : (q : Digest) → lookup (is_at (digest_cmp q)) dropped ≡ option_filter is_dropped (lookup (is_at (digest_cmp q)) blocks)
  at_dropped q = lookup-filter-values (eq_by_cmp_equiv digests_total) is_dropped q blocks (IsDistinct-from_sorted digest_cmp (keys_of blocks) held.blocks_ordered)

  -- a counted digest is that of a dropped block
  listed_drops : (q : Digest) → Contains low q → IsSome (lookup (is_at (digest_cmp q)) dropped)
  listed_drops q among =
      let entry = Contains-from_values_of counted q among in
      let (b, at, below, is) = at_home entry.0 q entry.1 in
      let lower : nat_lt b.round round ≡ true = is_lower b.round round below in
      subst IsSome (sym (at_dropped q ∙ ap (option_filter is_dropped) (sym (get_lookup digests_total blocks q) ∙ at) ∙ ap (λ t. cond t (Some b) None) lower)) refl

  -- the digest of a dropped block is counted
  dropped_listed : (q : Digest) → IsSome (lookup (is_at (digest_cmp q)) dropped) → Contains low q
  dropped_listed q some = by (lookup (is_at (digest_cmp q)) blocks) refl (subst IsSome (at_dropped q) some)
    where
      by : (found : Option Block) → lookup (is_at (digest_cmp q)) blocks ≡ found → IsSome (option_filter is_dropped found) → Contains low q
      by None is none = absurd cc
      by (Some b) is passes = cases (nat_lt b.round round) refl passes
        where
          cases : (t : Bool) → nat_lt b.round round ≡ t → IsSome (cond t (Some b) None) → Contains low q
          cases true lower passes = Contains-values_of counted (home q b) q (home_counted q b (get_lookup digests_total blocks q ∙ is) (lower_is b.round round lower))
          cases false lower passes = absurd cc

  listed_count : length counted ≡ length dropped
  listed_count =
      let once = IsDistinct-keys_filter (eq_by_cmp digest_cmp) (λ (e : Digest × Block). is_dropped e.1) blocks (IsDistinct-from_sorted digest_cmp (keys_of blocks) held.blocks_ordered) in
      let up = length-le_from_keys (eq_by_cmp_equiv digests_total) low dropped low_once (λ q any. listed_drops q (Contains-from_any same_digest q low any)) in
      let down = length-le_from_is_member (eq_by_cmp_equiv digests_total) (keys_of dropped) low once (λ q any. list_any-from_Contains (eq_by_cmp_equiv digests_total) q low
      (dropped_listed q (IsSome-lookup_from_Contains (eq_by_cmp_equiv digests_total) q dropped (Contains-from_any same_digest q (keys_of dropped) any)))) in
      omega (arith, up, down, length-keys_of dropped, length-values_of counted)

  -- the count is the number of dropped blocks
  pub dropped_count : length counted ≡ len (from_entries {R = digest_cmp} blocks) - len (raised s round).blocks
  dropped_count = omega (arith, listed_count, both_counts (λ (b : Block). b.round) round blocks, count_kept (λ (b : Block). b.round) round blocks held.blocks_ordered, len_sorted digests_total blocks held.blocks_ordered)
