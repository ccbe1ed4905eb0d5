-- The entries that a collection keeps.
use Rattle.nw_model.proofs.Words.{◌≡◌, ℕ, ◌≤◌, Bool, true, false, cond, List, Option, Some, None, refl, ap, sym, ◌∙◌, subst, arith, nat_le, option_map_or, eq_by_cmp_equiv, keys_of, is_at, FinMap, get, from_entries, IsDistinct-from_sorted, none-some, same_Some, Digest, Block, Certificate, digest_cmp, Slot, slot_cmp, digests_total, digests_apart, slots_total, slots_apart, get_lookup, tie}
use Rattle.std.proofs.Common.{filter}
use Rattle.std.specs.List.Sorted.{IsStrictlySortedBy}
use Rattle.std.specs.Map.{lookup}
use Rattle.std.specs.FinMap.{retain_keys, get-retain_keys, same_map}
use Rattle.std.proofs.lemmas.Map.Entries.{option_filter, lookup-filter-keys, lookup-filter-values}
use Rattle.nw_model.specs.State.{State}
use Rattle.nw_model.specs.Step.{from_round, raised}
use Rattle.nw_model.specs.Sound.{IsSound, IsSoundWithIndex}

low : (a b : ℕ) → nat_le a b ≡ true → a ≤ b
low a b e = grind arith

is_low : (a b : ℕ) → a ≤ b → nat_le a b ≡ true
is_low a b h = grind arith

module _ {X : Type 0} (round_of : X → ℕ) (round : ℕ) (m : FinMap digest_cmp X) where
  abbrev keeps : Option X → Bool
  keeps found = option_map_or (λ x. nat_le round (round_of x)) found false

  pub at_round : (d : Digest) → get (from_round round_of round m) d ≡ cond (keeps (get m d)) (get m d) None
  at_round d = get-retain_keys m (λ q. keeps (get m q)) d (λ x tied. ap (λ q. keeps (get m q)) (sym (digests_apart d x tied)))

  -- a kept entry was there, and is not below the round
  pub was_there : (d : Digest) (x : X) → get (from_round round_of round m) d ≡ Some x → (get m d ≡ Some x) × (round ≤ round_of x)
  was_there d x e = by (get m d) refl (sym (at_round d) ∙ e)
    where
      by : (found : Option X) → get m d ≡ found → cond (keeps found) found None ≡ Some x → (get m d ≡ Some x) × (round ≤ round_of x)
      by None is at = absurd (none-some x at)
      by (Some y) is at = test (nat_le round (round_of y)) refl at
        where
          test : (b : Bool) → nat_le round (round_of y) ≡ b → cond b (Some y) None ≡ Some x → (get m d ≡ Some x) × (round ≤ round_of x)
          test true high same = (is ∙ same, subst (λ z. round ≤ round_of z) (same_Some y x same) (low round (round_of y) high))
          test false high same = absurd (none-some x same)

  -- an entry that was there and is not below the round is kept
  pub is_kept : (d : Digest) (x : X) → get m d ≡ Some x → round ≤ round_of x → get (from_round round_of round m) d ≡ Some x
  is_kept d x at high =
      at_round d
      ∙ ap (λ found. cond (keeps found) found None) at
      ∙ ap (λ b. cond b (Some x) None) (is_low round (round_of x) high)

-- the slots that a collection keeps
module _ {X : Type 0} (round : ℕ) (m : FinMap slot_cmp X) where
  abbrev pub slots_from : FinMap slot_cmp X
  slots_from = retain_keys m (λ (slot : Slot). nat_le round slot.0)

  at_slot_round : (slot : Slot) → get slots_from slot ≡ cond (nat_le round slot.0) (get m slot) None
  at_slot_round slot = get-retain_keys m (λ (q : Slot). nat_le round q.0) slot (λ x tied. ap (λ (q : Slot). nat_le round q.0) (sym (slots_apart slot x tied)))

  pub slot_was_there : (slot : Slot) (x : X) → get slots_from slot ≡ Some x → (get m slot ≡ Some x) × (round ≤ slot.0)
  slot_was_there slot x e = by (nat_le round slot.0) refl (sym (at_slot_round slot) ∙ e)
    where
      by : (b : Bool) → nat_le round slot.0 ≡ b → cond b (get m slot) None ≡ Some x → (get m slot ≡ Some x) × (round ≤ slot.0)
      by true high at = (at, low round slot.0 high)
      by false high at = absurd (none-some x at)

  pub slot_is_kept : (slot : Slot) → round ≤ slot.0 → get slots_from slot ≡ get m slot
  slot_is_kept slot high = at_slot_round slot ∙ ap (λ b. cond b (get m slot) None) (is_low round slot.0 high)

-- a collection leaves a sound state sound
pub sound_raised : (s : State) (round : ℕ) → IsSound s → IsSound (raised s round)
sound_raised s round sound = record {
  own_digest = λ d c at. sound.own_digest d c (certificate d c at).0;
  one_slot = λ d b c held cert. sound.one_slot d b c (block d b held).0 (certificate d c cert).0;
  one_certificate = λ d e b c at_d at_e same. sound.one_certificate d e b c (certificate d b at_d).0 (certificate e c at_e).0 same;
  blocks_kept = λ d b at. (block d b at).1;
  certificates_kept = λ d c at. (certificate d c at).1;
}
  where
    block : (d : Digest) (b : Block) → get (raised s round).blocks d ≡ Some b → (get s.blocks d ≡ Some b) × (round ≤ b.round)
    block d b at = was_there (λ (x : Block). x.round) round s.blocks d b at

    certificate : (d : Digest) (c : Certificate) → get (raised s round).certificates d ≡ Some c → (get s.certificates d ≡ Some c) × (round ≤ c.round)
    certificate d c at = was_there (λ (x : Certificate). x.round) round s.certificates d c at

-- and the index without the slots below the round is the index of the new state
pub kept_raised : (s : State) (index : FinMap slot_cmp Digest) (round : ℕ) → IsSoundWithIndex s index → IsSoundWithIndex (raised s round) (slots_from round index)
kept_raised s index round kept = record {
  sound = sound_raised s round kept.sound;
  indexed = λ slot d. (
    λ at.
        let there = slot_was_there round index slot d at in
        let c = (kept.indexed slot d).0 there.0 in
        (c.0, is_kept (λ (x : Certificate). x.round) round s.certificates d c.0 c.1 (subst (λ (q : Slot). round ≤ q.0) (sym c.2) there.1), c.2),
    λ (c, at, here).
        let there = was_there (λ (x : Certificate). x.round) round s.certificates d c at in
        slot_is_kept round index slot (subst (λ (q : Slot). round ≤ q.0) here there.1) ∙ (kept.indexed slot d).1 (c, there.0, here),
  );
}

-- ---- filtered entries, seen as finite maps

option_kept : {X : Type 0} (p : X → Bool) (found : Option X) → option_filter p found ≡ cond (option_map_or p found false) found None
option_kept p None = refl
option_kept p (Some x) = refl

-- the entries that are not below the round
pub filtered_round : {X : Type 0} (round_of : X → ℕ) (round : ℕ) (es : List (Digest × X)) → IsStrictlySortedBy digest_cmp (keys_of es)
    → from_entries {R = digest_cmp} (filter (λ e. nat_le round (round_of e.1)) es) ≡ from_round round_of round (from_entries es)
filtered_round round_of round es sorted = same_map digests_total digests_apart _ _ (λ q.
    get_lookup digests_total (filter (λ e. nat_le round (round_of e.1)) es) q
    ∙ lookup-filter-values (eq_by_cmp_equiv digests_total) (λ x. nat_le round (round_of x)) q es (IsDistinct-from_sorted digest_cmp (keys_of es) sorted)
    ∙ option_kept (λ x. nat_le round (round_of x)) (lookup (is_at (digest_cmp q)) es)
    ∙ ap (λ found. cond (option_map_or (λ x. nat_le round (round_of x)) found false) found None) (sym (get_lookup digests_total es q))
    ∙ sym (at_round round_of round (from_entries es) q))

-- the slots that are not below the round
pub filtered_slots : {X : Type 0} (round : ℕ) (es : List (Slot × X)) → from_entries {R = slot_cmp} (filter (λ e. nat_le round e.0.0) es) ≡ slots_from round (from_entries es)
filtered_slots round es = same_map slots_total slots_apart _ _ (λ q.
    get_lookup slots_total (filter (λ e. nat_le round e.0.0) es) q
    ∙ lookup-filter-keys (is_at (slot_cmp q)) (λ (slot : Slot). nat_le round slot.0) (nat_le round q.0) (λ k tied. ap (λ (slot : Slot). nat_le round slot.0) (sym (slots_apart q k (tie (slot_cmp q k) tied)))) es
    ∙ ap (λ found. cond (nat_le round q.0) found None) (sym (get_lookup slots_total es q))
    ∙ sym (at_slot_round round (from_entries es) q))
