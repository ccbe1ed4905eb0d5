-- The tables after one more block or certificate.
use Rattle.nw_state.proofs.Words.{◌≡◌, ◌⊎◌, ℕ, ◌≤◌, true, false, not, Bool, List, [], ◌∷◌, Option, Some, None, IsSome, is_some, cond, refl, ap, sym, ◌∙◌, subst, inl, inr, Ordering, Less, eq_by_cmp_equiv, lookup, remove_entry, is_at, insert_entry, FinMap, get, insert, from_entries, Digest, Block, Certificate, Tables, digest_cmp, Slot, slot_cmp, State, block_slot, certificate_slot, is_digest, certified_digest, IsSoundWithIndex, index_answers, some_none, same_digest_decides, put_entries, digests_total, digests_apart}
use Rattle.std.specs.Option.{option_and_then}
use Rattle.std.specs.declared.cmp.Ordering.TheVariants.{Equal, Greater}
use Rattle.std.specs.Ordering.{is_eq, match_ordering}
use Rattle.nw_trie.proofs.Inserts.{sorted_insert}
use Rattle.nw_model.specs.Step.{has_other_slot, other_first, with_block, with_certificate}
use Rattle.nw_model.proofs.Kept.{kept_written, index_with_certificate, sound_with_certificate, after_insert, after_slot, at_insert, at_slot, still_insert, still_slot}
use Rattle.nw_state.specs.StateTables.{AreStateTables, IsListed, state_of}

-- a value that is inserted at a free digest and removed again
pub taken_back : {V : Type 0} (es : List (Digest × V)) (d : Digest) (v : V) → lookup (is_at (digest_cmp d)) es ≡ None → remove_entry (is_at (digest_cmp d)) (insert_entry digest_cmp es d v) ≡ es
taken_back [] d v none = ap (λ b. cond b [] ((d, v) ∷ [])) ((eq_by_cmp_equiv digests_total).refl d)
taken_back (e ∷ es) d v none = by (digest_cmp d e.0) refl none (taken_back es d v)
  where
    by : (r : Ordering) → digest_cmp d e.0 ≡ r → cond (is_at (digest_cmp d) e.0) (Some e.1) (lookup (is_at (digest_cmp d)) es) ≡ None
        → (lookup (is_at (digest_cmp d)) es ≡ None → remove_entry (is_at (digest_cmp d)) (insert_entry digest_cmp es d v) ≡ es)
        → remove_entry (is_at (digest_cmp d)) (match_ordering r ((d, v) ∷ e ∷ es) ((e.0, v) ∷ es) (e ∷ insert_entry digest_cmp es d v)) ≡ e ∷ es
    by Less is at rest = ap (λ b. cond b (e ∷ es) ((d, v) ∷ remove_entry (is_at (digest_cmp d)) (e ∷ es))) ((eq_by_cmp_equiv digests_total).refl d)
    by Equal is at rest = absurd (some_none e.1 (sym (ap (λ r. cond (is_eq r) (Some e.1) (lookup (is_at (digest_cmp d)) es)) is) ∙ at))
    by Greater is at rest =
        let here : is_at (digest_cmp d) e.0 ≡ false = ap is_eq is in
        ap (λ b. cond b (insert_entry digest_cmp es d v) (e ∷ remove_entry (is_at (digest_cmp d)) (insert_entry digest_cmp es d v))) here
        ∙ ap (λ xs. e ∷ xs) (rest (sym (ap (λ b. cond b (Some e.1) (lookup (is_at (digest_cmp d)) es)) here) ∙ at))

-- if there is a vote, the slot has no first digest
pub vacant_first : (found : Option Digest) → true ≡ not (is_some found) → found ≡ None
vacant_first None e = refl
vacant_first (Some d) e = absurd cc

-- if there is no vote, the slot has this first digest, or the digest is certified
pub known_first : (s : State) (d : Digest) (slot : Slot) → other_first s d slot ≡ None → false ≡ not (is_some (get s.firsts slot)) → (get s.firsts slot ≡ Some d) ⊎ IsSome (get s.certificates d)
known_first s d slot alone voted = by (get s.certificates d) refl (get s.firsts slot) refl
  where
    only : (first : Digest) (b : Bool) → is_digest first d ≡ b → cond b None (Some first) ≡ None → first ≡ d
    only first true is e = (same_digest_decides first d).0 is
    only first false is e = absurd (some_none first e)

    by : (c : Option Certificate) → get s.certificates d ≡ c → (f : Option Digest) → get s.firsts slot ≡ f → (get s.firsts slot ≡ Some d) ⊎ IsSome (get s.certificates d)
    by (Some c) is f at = inr (subst IsSome (sym is) refl)
    by None is None at = let no : false ≡ true = voted ∙ ap (λ f. not (is_some f)) at in absurd cc
    by None is (Some first) at =
        let here : first ≡ d = only first (is_digest first d) refl
        (sym (ap (λ c. cond (is_some c) None (option_and_then (λ x. cond (is_digest x d) None (Some x)) (get s.firsts slot))) is ∙ ap (λ f. option_and_then (λ x. cond (is_digest x d) None (Some x)) f) at) ∙ alone) in
        inl (at ∙ ap Some here)

-- one more block
module _ (blocks more : List (Digest × Block)) (certificates : List (Digest × Certificate)) (slots after : Tables) (floor : ℕ) (d : Digest) (b : Block) (vote : Bool) (put : more ≡ insert_entry digest_cmp blocks d b)
    (firsts : after.firsts ≡ cond vote (insert slots.firsts (block_slot b) d) slots.firsts) where
  puts : from_entries {R = digest_cmp} more ≡ insert (from_entries blocks) d b
  puts = put_entries digests_total digests_apart blocks more d b put

  pub same_held : state_of more certificates after floor ≡ with_block (state_of blocks certificates slots floor) d b vote
  same_held = λ i. record { blocks = puts i; certificates = from_entries certificates; firsts = firsts i; floor = floor }

  module _ (held : AreStateTables blocks certificates slots floor) (none : get (from_entries {R = digest_cmp} blocks) d ≡ None) (fits : has_other_slot certificate_slot (get (from_entries {R = digest_cmp} certificates) d) (block_slot b) ≡ false)
      (above : floor ≤ b.round) (same : after.certified ≡ slots.certified) (first : vote ≡ not (is_some (get slots.firsts (block_slot b)))) (alone : other_first (state_of blocks certificates slots floor) d (block_slot b) ≡ None) where
    kept : IsSoundWithIndex (state_of more certificates after floor) after.certified
    kept = rw same (kept_written (state_of blocks certificates slots floor) slots.certified d b (from_entries more) after.firsts held.kept fits above puts)

    at_new : get (from_entries {R = digest_cmp} more) d ≡ Some b
    at_new = subst (λ m. get m d ≡ Some b) (sym puts) (at_insert (from_entries blocks) d b)

    certified : (found : Option Certificate) → get (from_entries {R = digest_cmp} certificates) d ≡ found → IsSome found → IsListed after d b
    certified None is some = absurd cc
    certified (Some c) is some = inr ((kept.indexed (block_slot b) d).1 (c, is, sym (kept.sound.one_slot d b c at_new is)))

    -- the new digest is listed, each first digest stays, and no other digest becomes first
    abbrev Votes : FinMap slot_cmp Digest → Type 0
    Votes m = ((get m (block_slot b) ≡ Some d) ⊎ IsSome (get (from_entries {R = digest_cmp} certificates) d))
        × ((slot : Slot) (e : Digest) → get slots.firsts slot ≡ Some e → get m slot ≡ Some e)
        × ((slot : Slot) (e : Digest) → get m slot ≡ Some e → ((slot ≡ block_slot b) × (d ≡ e)) ⊎ (get slots.firsts slot ≡ Some e))

    votes : (v : Bool) → v ≡ not (is_some (get slots.firsts (block_slot b))) → Votes (cond v (insert slots.firsts (block_slot b) d) slots.firsts)
    votes true is = (
      inl (at_slot slots.firsts (block_slot b) d),
      λ slot e has. still_slot slots.firsts (block_slot b) d slot e (vacant_first (get slots.firsts (block_slot b)) is) has,
      λ slot e has. after_slot slots.firsts (block_slot b) d slot e has,
    )
    votes false is = (known_first (state_of blocks certificates slots floor) d (block_slot b) alone is, λ slot e has. has, λ slot e has. inr has)

    voting : Votes after.firsts
    voting = subst Votes (sym firsts) (votes vote first)

    pub block_held : AreStateTables more certificates after floor
    block_held = record {
      kept = kept;
      listed = λ e x at. elim (after_insert (from_entries blocks) d b e x (subst (λ m. get m e ≡ Some x) puts at)) [
        | inl new ↦ subst (λ y. IsListed after e y) new.1 (subst (λ q. IsListed after q b) (sym new.0) new_is)
        | inr old ↦ elim (held.listed e x old) [ inl was ↦ inl (voting.1 (block_slot x) e was) | inr was ↦ inr (subst (λ m. get m (block_slot x) ≡ Some e) (sym same) was) ]
      ];
      voted = λ slot e at. elim (voting.2 slot e at) [
        | inl new ↦ (b, subst (λ q. get (from_entries {R = digest_cmp} more) q ≡ Some b) new.1 at_new, sym new.0)
        | inr old ↦
            let (x, there, here) = held.voted slot e old in
            (x, subst (λ m. get m e ≡ Some x) (sym puts) (still_insert (from_entries blocks) d b e x none there), here)
      ];
      blocks_ordered = rw put (sorted_insert d b blocks held.blocks_ordered);
      certificates_ordered = held.certificates_ordered;
    }
      where
        new_is : IsListed after d b
        new_is = elim voting.0 [ inl is ↦ inl is | inr some ↦ certified (get (from_entries {R = digest_cmp} certificates) d) refl some ]

-- one more certificate
pub certificate_held : (blocks : List (Digest × Block)) (certificates more : List (Digest × Certificate)) (slots after : Tables) (floor : ℕ) (c : Certificate)
    → AreStateTables blocks certificates slots floor → get (from_entries {R = digest_cmp} certificates) c.digest ≡ None → certified_digest (state_of blocks certificates slots floor) (certificate_slot c) ≡ None
    → has_other_slot block_slot (get (from_entries {R = digest_cmp} blocks) c.digest) (certificate_slot c) ≡ false → floor ≤ c.round
    → more ≡ insert_entry digest_cmp certificates c.digest c → after.certified ≡ insert slots.certified (certificate_slot c) c.digest → after.firsts ≡ slots.firsts → AreStateTables blocks more after floor
certificate_held blocks certificates more slots after floor c held none first fits above put index firsts =
    let s : State = state_of blocks certificates slots floor in
    let new = sound_with_certificate s c held.kept.sound first fits above in
    let entries = put_entries digests_total digests_apart certificates more c.digest c put in
    let vacant : get slots.certified (certificate_slot c) ≡ None = index_answers s slots.certified (certificate_slot c) held.kept.indexed ∙ first in
    record {
      kept = rw (entries, index) (record {
        sound = record { own_digest = new.own_digest; one_slot = new.one_slot; one_certificate = new.one_certificate; blocks_kept = new.blocks_kept; certificates_kept = new.certificates_kept };
        indexed = index_with_certificate s slots.certified c held.kept.indexed none (index_answers s slots.certified (certificate_slot c) held.kept.indexed ∙ first);
      });
      listed = λ d b at. elim (held.listed d b at) [
        | inl was ↦ inl (subst (λ m. get m (block_slot b) ≡ Some d) (sym firsts) was)
        | inr was ↦ inr (subst (λ m. get m (block_slot b) ≡ Some d) (sym index) (still_slot slots.certified (certificate_slot c) c.digest (block_slot b) d vacant was))
      ];
      voted = λ slot d at. held.voted slot d (subst (λ m. get m slot ≡ Some d) firsts at);
      blocks_ordered = held.blocks_ordered;
      certificates_ordered = rw put (sorted_insert c.digest c certificates held.certificates_ordered);
    }

pub same_certified : (blocks : List (Digest × Block)) (certificates more : List (Digest × Certificate)) (slots after : Tables) (floor : ℕ) (c : Certificate)
    → more ≡ insert_entry digest_cmp certificates c.digest c → after.firsts ≡ slots.firsts
    → state_of blocks more after floor ≡ with_certificate (state_of blocks certificates slots floor) c
same_certified blocks certificates more slots after floor c put first =
    let new = put_entries digests_total digests_apart certificates more c.digest c put in
    λ i. record { blocks = from_entries blocks; certificates = new i; firsts = first i; floor = floor }
