-- Finding the complete blocks, slot by slot.
use Rattle.nw_plain.proofs.Words.{◌≡◌, ◌↔◌, ◌⊎◌, ℕ, ◌+◌, Bool, true, false, List, [], ◌∷◌, Some, None, IsSome, cond, get_or, refl, ap, sym, ◌∙◌, subst, arith, inl, inr, Less, eq_by_cmp_equiv, AllByRecursion, FinMap, get, insert, from_entries, lookup, keys_of, is_at, sorted_head, sorted_tail, Digest, Block, Certificate, digest_cmp, Slot, slot_cmp, State, block_slot, certificate_slot, IsComplete, IsSound, IsCompletedBy, AreComplete, get_lookup, digests_total, slots_total, slots_apart, same_digest, which, none-some}
use Rattle.std.specs.Ordering.{eq_by_cmp, nat_cmp, ordering_then}
use Rattle.std.specs.Cmp.{nat_cmp_is}
use Rattle.std.specs.List.Sorted.{IsStrictlySortedBy}
use Rattle.std.specs.FinMap.{empty, get-empty, get-insert}
use Rattle.nw_model.specs.Paths.{IsStanding}
use Rattle.nw_model.specs.Sound.{IsIndex}
use Rattle.nw_model.specs.View.{AddsIfComplete}
use Rattle.nw_digest.proofs.Maps.{find_lookup, find_below, tie}
use Rattle.nw_model.proofs.Kept.{after_insert, at_insert}
use Rattle.nw_model.proofs.Complete.{one_block, complete_from_parents, parents_complete}
use Rattle.std.proofs.lemmas.Bool.{cases_lt}

-- some slots are left, in order, and the complete blocks of the other slots are found
pub record SoFar (s : State) (left : List (Slot × Digest)) (complete : FinMap digest_cmp Block) : Type 0 where
  pub sorted : IsStrictlySortedBy slot_cmp (keys_of left)
  pub indexed : (q : Slot) (d : Digest) → lookup (is_at (slot_cmp q)) left ≡ Some d → (c : Certificate) × (get s.certificates d ≡ Some c) × (certificate_slot c ≡ q)
  pub blocks : (d : Digest) (b : Block) → (get complete d ≡ Some b) ↔ ((get s.blocks d ≡ Some b) × IsComplete s d × (lookup (is_at (slot_cmp (block_slot b))) left ≡ None))

-- ---- slots in order

below_all : (q x : Slot) (ks : List Slot) → slot_cmp q x ≡ Less → AllByRecursion (λ y. slot_cmp x y ≡ Less) ks → AllByRecursion (λ y. slot_cmp q y ≡ Less) ks
below_all q x [] less all = tt
below_all q x (k ∷ ks) less all = (slots_total.trans q x k less all.0, below_all q x ks less all.1)

-- a slot below the first that is left is not left
not_left : (q x : Slot) (d : Digest) (left : List (Slot × Digest)) → slot_cmp q x ≡ Less → IsStrictlySortedBy slot_cmp (keys_of ((x, d) ∷ left)) → lookup (is_at (slot_cmp q)) ((x, d) ∷ left) ≡ None
not_left q x d left less sorted =
    sym (find_lookup slot_cmp ((x, d) ∷ left) q) ∙ find_below slot_cmp q ((x, d) ∷ left) (less, below_all q x (keys_of left) less (sorted_head slot_cmp x (keys_of left) sorted))

-- the first slot that is left is not left again
not_again : (x : Slot) (left : List (Slot × Digest)) (d : Digest) → IsStrictlySortedBy slot_cmp (keys_of ((x, d) ∷ left)) → lookup (is_at (slot_cmp x)) left ≡ None
not_again x left d sorted = sym (find_lookup slot_cmp left x) ∙ find_below slot_cmp x left (sorted_head slot_cmp x (keys_of left) sorted)

-- the first slot that is left is found
at_itself : (x : Slot) (d : Digest) (next : List (Slot × Digest)) → lookup (is_at (slot_cmp x)) ((x, d) ∷ next) ≡ Some d
at_itself x d next = ap (λ b. cond b (Some d) (lookup (is_at (slot_cmp x)) next)) ((eq_by_cmp_equiv slots_total).refl x)

-- a slot that is not left is not left after one more slot is tested
not_behind : (q x : Slot) (d : Digest) (next : List (Slot × Digest)) → lookup (is_at (slot_cmp q)) ((x, d) ∷ next) ≡ None → lookup (is_at (slot_cmp q)) next ≡ None
not_behind q x d next none = by (is_at (slot_cmp q) x) none
  where
    by : (b : Bool) → cond b (Some d) (lookup (is_at (slot_cmp q)) next) ≡ None → lookup (is_at (slot_cmp q)) next ≡ None
    by true e = absurd (none-some d (sym e))
    by false e = e

-- a slot that is not left after one more slot is tested is that slot, or was not left before
first_or_not : (q x : Slot) (d : Digest) (next : List (Slot × Digest)) → lookup (is_at (slot_cmp q)) next ≡ None → (q ≡ x) ⊎ (lookup (is_at (slot_cmp q)) ((x, d) ∷ next) ≡ None)
first_or_not q x d next none = by (is_at (slot_cmp q) x) refl
  where
    by : (b : Bool) → is_at (slot_cmp q) x ≡ b → (q ≡ x) ⊎ (lookup (is_at (slot_cmp q)) ((x, d) ∷ next) ≡ None)
    by true at = inl (slots_apart q x (tie (slot_cmp q x) at))
    by false at = inr (ap (λ b. cond b (Some d) (lookup (is_at (slot_cmp q)) next)) at ∙ none)

-- a slot that is left after one more slot is tested was left before
found_behind : (q x : Slot) (d e : Digest) (next : List (Slot × Digest)) → IsStrictlySortedBy slot_cmp (keys_of ((x, d) ∷ next)) → lookup (is_at (slot_cmp q)) next ≡ Some e → lookup (is_at (slot_cmp q)) ((x, d) ∷ next) ≡ Some e
found_behind q x d e next sorted found = by (is_at (slot_cmp q) x) refl
  where
    by : (b : Bool) → is_at (slot_cmp q) x ≡ b → lookup (is_at (slot_cmp q)) ((x, d) ∷ next) ≡ Some e
    by true at =
        let same : q ≡ x = slots_apart q x (tie (slot_cmp q x) at) in
        absurd (none-some e (sym (not_again x next d sorted) ∙ ap (λ (y : Slot). lookup (is_at (slot_cmp y)) next) (sym same) ∙ found))
    by false at = ap (λ b. cond b (Some d) (lookup (is_at (slot_cmp q)) next)) at ∙ found

-- a value stays if another digest, or the same value, is inserted
pub stays : (m : FinMap digest_cmp Block) (k : Digest) (v : Block) (q : Digest) (x : Block) → get m q ≡ Some x → (q ≡ k → v ≡ x) → get (insert m k v) q ≡ Some x
stays m k v q x at same = get-insert digests_total m k v q ∙ by (eq_by_cmp digest_cmp q k) refl
  where
    by : (b : Bool) → eq_by_cmp digest_cmp q k ≡ b → cond b (Some v) (get m q) ≡ Some x
    by true e = ap Some (same (same_digest q k e))
    by false e = at

-- ---- one slot

earlier : (a b m n : ℕ) → a + 1 ≡ m → slot_cmp (a, b) (m, n) ≡ Less
earlier a b m n e = ap (λ o. ordering_then o (nat_cmp b n)) (sym (nat_cmp_is a m Less (omega (arith, e))))

module _ (s : State) (x : Slot) (d : Digest) (next : List (Slot × Digest)) (old : FinMap digest_cmp Block) (sound : IsSound s) (far : SoFar s ((x, d) ∷ next) old) where
  -- the certificate of the slot
  certified : (c : Certificate) × (get s.certificates d ≡ Some c) × (certificate_slot c ≡ x)
  certified = far.indexed x d (at_itself x d next)

  stands : (b : Block) → get s.blocks d ≡ Some b → IsStanding s d b
  stands b at = (at, subst IsSome (sym certified.1) refl)

  its_slot : (b : Block) → get s.blocks d ≡ Some b → block_slot b ≡ x
  its_slot b at = sound.one_slot d b certified.0 at certified.1 ∙ certified.2

  -- the complete block of the slot is the tested one
  only_one : (e : Digest) (b : Block) → get s.blocks e ≡ Some b → IsComplete s e → block_slot b ≡ x → e ≡ d
  only_one e b at whole same =
      let c = which (get s.certificates e) whole.stands.1.1 in
      sound.one_certificate e d c.0 certified.0 c.1 certified.1 (sym (sound.one_slot e b c.0 at c.1) ∙ same ∙ sym certified.2)

  completes : (b : Block) → get s.blocks d ≡ Some b → IsCompletedBy s old b → IsComplete s d
  completes b at (inl low) = complete_from_parents s d b sound (stands b at) (inl low)
  completes b at (inr parents) = complete_from_parents s d b sound (stands b at) (inr (λ k r lt.
      let p = parents k r lt in
      let held = (far.blocks (get_or b.parents k r).digest p.0).0 p.1 in
      ((p.0, (held.0, held.1.stands.1.1), p.2, p.3), held.1)))

  completed : (b : Block) → get s.blocks d ≡ Some b → IsComplete s d → IsCompletedBy s old b
  completed b at whole = elim (cases_lt s.floor b.round) [
    | inl above ↦ inr (λ k r lt.
        let both = parents_complete s d b whole (stands b at) above k r lt in
        let p = both.0 in
        let less : slot_cmp (block_slot p.0) x ≡ Less = subst (λ (y : Slot). slot_cmp (block_slot p.0) y ≡ Less) (its_slot b at) (earlier p.0.round p.0.author b.round b.author p.3) in
        (p.0, (far.blocks (get_or b.parents k r).digest p.0).1 (p.1.0, both.1, not_left (block_slot p.0) x d next less far.sorted), p.2, p.3))
    | inr low ↦ inl low
  ]

  -- each found block is the tested one, or was found before
  gives : (new : FinMap digest_cmp Block) → AddsIfComplete s old new d → (e : Digest) (b : Block) → get new e ≡ Some b → ((e ≡ d) × (get s.blocks d ≡ Some b) × IsComplete s d) ⊎ (get old e ≡ Some b)
  gives new (inl (none, same)) e b at = inr (ap (λ m. get m e) (sym same) ∙ at)
  gives new (inr (c, held, inr (never, same))) e b at = inr (ap (λ m. get m e) (sym same) ∙ at)
  gives new (inr (c, held, inl (how, put))) e b at = elim (after_insert old d c e b (ap (λ m. get m e) (sym put) ∙ at)) [
    | inl here ↦ inl (here.0, held ∙ ap Some here.1, completes c held how)
    | inr there ↦ inr there
  ]

  -- a block found before is still found
  keeps : (new : FinMap digest_cmp Block) → AddsIfComplete s old new d → (e : Digest) (b : Block) → get s.blocks e ≡ Some b → get old e ≡ Some b → get new e ≡ Some b
  keeps new (inl (none, same)) e b held at = ap (λ m. get m e) same ∙ at
  keeps new (inr (c, here, inr (never, same))) e b held at = ap (λ m. get m e) same ∙ at
  keeps new (inr (c, here, inl (how, put))) e b held at = ap (λ m. get m e) put ∙ stays old d c e b at (λ one. one_block c b here (ap (get s.blocks) (sym one) ∙ held))

  -- the slot's block is found if it is complete
  adds : (new : FinMap digest_cmp Block) → AddsIfComplete s old new d → (b : Block) → get s.blocks d ≡ Some b → IsComplete s d → get new d ≡ Some b
  adds new (inl (none, same)) b held whole = absurd (none-some b (sym none ∙ held))
  adds new (inr (c, here, inr (never, same))) b held whole = absurd (never (completed c here whole))
  adds new (inr (c, here, inl (how, put))) b held whole = ap (λ m. get m d) put ∙ at_insert old d c ∙ sym here ∙ held

  -- after the test one slot fewer is left
  pub one_fewer : (new : FinMap digest_cmp Block) → AddsIfComplete s old new d → SoFar s next new
  one_fewer new added = record {
    sorted = sorted_tail slot_cmp x (keys_of next) far.sorted;
    indexed = λ q e found. far.indexed q e (found_behind q x d e next far.sorted found);
    blocks = λ e b. (
      λ at. elim (gives new added e b at) [
        | inl here ↦ (
          ap (get s.blocks) here.0 ∙ here.1,
          subst (IsComplete s) (sym here.0) here.2,
          ap (λ (y : Slot). lookup (is_at (slot_cmp y)) next) (its_slot b here.1) ∙ not_again x next d far.sorted,
        )
        | inr there ↦ let was = (far.blocks e b).0 there in (was.0, was.1, not_behind (block_slot b) x d next was.2)
      ],
      λ (held, whole, none). elim (first_or_not (block_slot b) x d next none) [
        | inl here ↦
            let one : e ≡ d = only_one e b held whole here in
            ap (get new) one ∙ adds new added b (ap (get s.blocks) (sym one) ∙ held) (subst (IsComplete s) one whole)
        | inr behind ↦ keeps new added e b held ((far.blocks e b).1 (held, whole, behind))
      ],
    );
  }

-- ---- all slots

-- at the start no block is found, and all slots are left
pub all_left : (s : State) (entries : List (Slot × Digest)) → IsSound s → IsIndex s.certificates (from_entries entries) → IsStrictlySortedBy slot_cmp (keys_of entries) → SoFar s entries empty
all_left s entries sound indexed sorted = record {
  sorted = sorted;
  indexed = λ q d found. (indexed q d).0 (get_lookup slots_total entries q ∙ found);
  blocks = λ d b. (
    λ at. absurd (none-some b (sym (get-empty digest_cmp d) ∙ at)),
    λ (held, whole, none).
        let c = which (get s.certificates d) whole.stands.1.1 in
        let listed = (indexed (block_slot b) d).1 (c.0, c.1, sym (sound.one_slot d b c.0 held c.1)) in
        absurd (none-some d (sym none ∙ sym (get_lookup slots_total entries (block_slot b)) ∙ listed)),
  );
}

-- at the end the complete blocks are found
pub none_left : (s : State) (complete : FinMap digest_cmp Block) → SoFar s [] complete → AreComplete s complete
none_left s complete far d b = (
  λ at. let was = (far.blocks d b).0 at in (was.0, was.1),
  λ (held, whole). (far.blocks d b).1 (held, whole, refl),
)
