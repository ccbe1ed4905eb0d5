-- The tables after a collection.
use Rattle.nw_state.proofs.Words.{◌≡◌, ℕ, ◌+◌, ◌≤◌, List, Some, refl, sym, ap, ◌∙◌, subst, arith, inl, inr, get, len, from_entries, IsDistinct-from_sorted, Digest, Block, Certificate, Tables, digest_cmp, Slot, State, block_slot, certificate_slot, raised, from_round, IsSoundWithIndex, one_block, get_lookup, digests_total}
use Rattle.nw_rounds.specs.Slots.{AreDigestsBetween}
use Rattle.nw_model.proofs.Raised.{is_kept, kept_raised, slots_from, slot_is_kept, slot_was_there, was_there}
use Rattle.nw_state.specs.StateTables.{AreStateTables, state_of}
use Rattle.nw_state.specs.Dropping.{DropsBelow}
use Rattle.nw_state.specs.Collection.{AreDigestsUpTo}
use Rattle.nw_state.proofs.Dropped.{dropped_is, count_fewer}

module _ (blocks stay : List (Digest × Block)) (certificates kept : List (Digest × Certificate)) (slots after : Tables) (floor round : ℕ) (held : AreStateTables blocks certificates slots floor)
    (low : List Digest) (digests_up_to : AreDigestsUpTo (state_of blocks certificates slots floor) round low)
    (drops : DropsBelow (λ (b : Block). b.round) round low blocks stay) (drops_too : DropsBelow (λ (c : Certificate). c.round) round low certificates kept)
    (firsts : after.firsts ≡ slots_from round slots.firsts) (index : after.certified ≡ slots_from round slots.certified) where
  abbrev s : State
  s = state_of blocks certificates slots floor

  blocks_are : from_entries {R = digest_cmp} stay ≡ from_round (λ (b : Block). b.round) round (from_entries blocks)
  blocks_are = dropped_is (λ (b : Block). b.round) round low blocks stay drops (λ d (b, is, below). digests_up_to.blocks d b (get_lookup digests_total blocks d ∙ is) (omega (arith, below)))

  certificates_are : from_entries {R = digest_cmp} kept ≡ from_round (λ (c : Certificate). c.round) round (from_entries certificates)
  certificates_are = dropped_is (λ (c : Certificate). c.round) round low certificates kept drops_too (λ d (c, is, below). digests_up_to.certificates d c (get_lookup digests_total certificates d ∙ is) (omega (arith, below)))

  pub same_raised : state_of stay kept after round ≡ raised s round
  same_raised = λ i. record { blocks = blocks_are i; certificates = certificates_are i; firsts = firsts i; floor = round }

  pub held_raised : AreStateTables stay kept after round
  held_raised = record {
    kept = subst (λ (t : State). IsSoundWithIndex t after.certified) (sym same_raised) (subst (λ m. IsSoundWithIndex (raised s round) m) (sym index) (kept_raised s slots.certified round held.kept));
    listed = λ d b at.
        let was = was_there (λ (x : Block). x.round) round (from_entries blocks) d b (subst (λ m. get m d ≡ Some b) blocks_are at) in
        elim (held.listed d b was.0) [
          | inl first ↦ inl (subst (λ m. get m (block_slot b) ≡ Some d) (sym firsts) (slot_is_kept round slots.firsts (block_slot b) was.1 ∙ first))
          | inr certified ↦ inr (subst (λ m. get m (block_slot b) ≡ Some d) (sym index) (slot_is_kept round slots.certified (block_slot b) was.1 ∙ certified))
        ];
    voted = λ slot d at.
        let was = slot_was_there round slots.firsts slot d (subst (λ m. get m slot ≡ Some d) firsts at) in
        let (b, there, here) = held.voted slot d was.0 in
        (b, subst (λ m. get m d ≡ Some b) (sym blocks_are) (is_kept (λ (x : Block). x.round) round (from_entries blocks) d b there (subst (λ (q : Slot). round ≤ q.0) (sym here) was.1)), here);
    blocks_ordered = drops.ordered;
    certificates_ordered = drops_too.ordered;
  }

  pub fewer_raised : len (from_entries {R = digest_cmp} stay) ≤ len (from_entries {R = digest_cmp} blocks)
  fewer_raised = subst (λ n. n ≤ len (from_entries {R = digest_cmp} blocks)) (sym (ap len blocks_are)) (count_fewer (λ (b : Block). b.round) round blocks held.blocks_ordered)

-- ---- the digests of the slots

module _ (blocks : List (Digest × Block)) (certificates : List (Digest × Certificate)) (slots : Tables) (floor : ℕ) (held : AreStateTables blocks certificates slots floor) where
  -- a certificate and the block under its digest have the same slot
  pub certified_slot : (slot : Slot) (d : Digest) (b : Block) → get slots.certified slot ≡ Some d → get (from_entries {R = digest_cmp} blocks) d ≡ Some b → block_slot b ≡ slot
  certified_slot slot d b at there = let (c, is, here) = (held.kept.indexed slot d).0 at in held.kept.sound.one_slot d b c there is ∙ here

  -- the block under a first digest has the digest's slot
  voted_slot : (slot : Slot) (d : Digest) (b : Block) → get slots.firsts slot ≡ Some d → get (from_entries {R = digest_cmp} blocks) d ≡ Some b → block_slot b ≡ slot
  voted_slot slot d b at there = let (x, is, here) = held.voted slot d at in ap block_slot (one_block b x there is) ∙ here

  -- the digests of the slots of this round and of lower rounds
  pub gathered : (round : ℕ) (listed : List Digest) → AreDigestsBetween slots 0 (round + 1) listed → AreDigestsUpTo (state_of blocks certificates slots floor) round listed
  gathered round listed between = record {
    blocks = λ d b at low. (between.exactly d).1 (b.round, omega arith, omega (arith, low), (b.author, held.listed d b at));
    certificates = λ d c at low. (between.exactly d).1 (c.round, omega arith, omega (arith, low), (c.author, inr ((held.kept.indexed (certificate_slot c) d).1 (c, at, refl))));
    only = λ d b among there.
        let (r, from, low, (author, stands)) = (between.exactly d).0 among in
        let here : block_slot b ≡ (r, author) = elim stands [ inl first ↦ voted_slot (r, author) d b first there | inr certified ↦ certified_slot (r, author) d b certified there ] in
        let same : b.round ≡ r = ap (λ (q : Slot). q.0) here in
        omega (arith, same, low);
    once = IsDistinct-from_sorted digest_cmp listed between.ascending;
  }
