-- The invariant of a store with an index (IsSoundWithIndex), step by step.
use Rattle.nw_model.proofs.Words.{◌≡◌, ◌≤◌, Bool, true, false, not, List, [], ◌∷◌, Option, Some, None, cond, is_some, refl, ap, sym, ◌∙◌, subst, inl, inr, ◌⊎◌, ◌||◌, Ordering, eq_by_cmp, eq_by_cmp_equiv, option_map_or, FinMap, get, insert, keys, contains_key-keys, get-empty, get-insert, Digest, Block, Certificate, digest_cmp, Slot, slot_cmp, digests_total, slots_total, slots_apart, tie, same_digest}
use Rattle.std.specs.Prelude.{◌↔◌, Result, Ok, Err, OnOk, OnErr, find}
use Rattle.std.specs.List.{list_any}
use Rattle.std.specs.FinMap.{empty}
use Rattle.nw_model.specs.State.{State, block_slot, certificate_slot}
use Rattle.nw_model.specs.Step.{is_slot, has_other_slot, is_certified_for, certified_digest, with_block, with_certificate}
use Rattle.nw_model.specs.Sound.{IsSound, IsIndex, IsSoundWithIndex}
use Rattle.nw_model.proofs.Sames.{same_slot_decides}

-- ---- tests

-- a found element passes the test
find_passes : {X : Type 0} (p : X → Bool) (xs : List X) (x : X) → find p xs ≡ Some x → p x ≡ true
find_passes p [] x e = absurd cc
find_passes p (y ∷ ys) x e = by (p y) refl e (find_passes p ys x)
  where
    by : (b : Bool) → p y ≡ b → cond b (Some y) (find p ys) ≡ Some x → (find p ys ≡ Some x → p x ≡ true) → p x ≡ true
    by true is e rest = let same : y ≡ x = cc in subst (λ z. p z ≡ true) same is
    by false is e rest = rest e

-- a search finds an element if a passing one is in the list
find_misses : {K : Type 0} (R : K → K → Ordering) (p : K → Bool) (q : K) (ks : List K) → ((x y : K) → eq_by_cmp R x y ≡ true → x ≡ y)
    → list_any (eq_by_cmp R q) ks ≡ true → p q ≡ true → find p ks ≡ None → ⊥
find_misses R p q [] same any passes none = absurd cc
find_misses R p q (k ∷ ks) same any passes none = by (eq_by_cmp R q k) refl (p k) refl any none (find_misses R p q ks same)
  where
    by : (t : Bool) → eq_by_cmp R q k ≡ t → (b : Bool) → p k ≡ b → (t || list_any (eq_by_cmp R q) ks) ≡ true → cond b (Some k) (find p ks) ≡ None
        → (list_any (eq_by_cmp R q) ks ≡ true → p q ≡ true → find p ks ≡ None → ⊥) → ⊥
    by t tie true is any none rest = absurd cc
    by true tie false is any none rest = let one : q ≡ k = same q k tie in let wrong : p k ≡ true = subst (λ z. p z ≡ true) one passes in absurd cc
    by false tie false is any none rest = rest any passes none

-- ---- the index

test_of : (found : Option Certificate) (slot : Slot) → option_map_or (λ c. is_slot (certificate_slot c) slot) found false ≡ true → (c : Certificate) × (found ≡ Some c) × (certificate_slot c ≡ slot)
test_of None slot e = absurd cc
test_of (Some c) slot e = (c, refl, (same_slot_decides (certificate_slot c) slot).0 e)

certified_passes : (found : Option Certificate) (c : Certificate) (slot : Slot) → found ≡ Some c → certificate_slot c ≡ slot → option_map_or (λ x. is_slot (certificate_slot x) slot) found false ≡ true
certified_passes found c slot is at =
    subst (λ f. option_map_or (λ x. is_slot (certificate_slot x) slot) f false ≡ true) (sym is)
    (subst (λ (t : Slot). is_slot (certificate_slot c) t ≡ true) at ((same_slot_decides (certificate_slot c) (certificate_slot c)).1 refl))

-- the index gives the certified digest of a slot
pub index_answers : (s : State) (index : FinMap slot_cmp Digest) (slot : Slot) → IsIndex s.certificates index → get index slot ≡ certified_digest s slot
index_answers s index slot indexed = by (certified_digest s slot) refl (get index slot) refl
  where
    by : (found : Option Digest) → certified_digest s slot ≡ found → (there : Option Digest) → get index slot ≡ there → there ≡ found
    by (Some d) is there at =
        let c = test_of (get s.certificates d) slot (find_passes (is_certified_for s slot) (keys s.certificates) d is) in
        sym at ∙ (indexed slot d).1 c
    by None is None at = refl
    by None is (Some d) at =
        let c = (indexed slot d).0 at in
        let passes : is_certified_for s slot d ≡ true = certified_passes (get s.certificates d) c.0 slot c.1 c.2 in
        let held : list_any (eq_by_cmp digest_cmp d) (keys s.certificates) ≡ true = sym (contains_key-keys s.certificates d) ∙ ap is_some c.1 in
        absurd (find_misses digest_cmp (is_certified_for s slot) d (keys s.certificates) same_digest held passes is)

-- ---- a written block

apart_slot : {X : Type 0} (slot_of : X → Slot) (found : Option X) (slot : Slot) (x : X) → has_other_slot slot_of found slot ≡ false → found ≡ Some x → slot_of x ≡ slot
apart_slot slot_of None slot x e is = absurd cc
apart_slot slot_of (Some y) slot x e is =
    let same : y ≡ x = cc in
    subst (λ z. slot_of z ≡ slot) same ((same_slot_decides (slot_of y) slot).0 (not_false (is_slot (slot_of y) slot) e))
  where
    not_false : (b : Bool) → not b ≡ false → b ≡ true
    not_false true h = refl
    not_false false h = absurd cc

-- a value found after an insertion is the inserted one, or was found before
pub after_insert : {X : Type 0} (m : FinMap digest_cmp X) (k : Digest) (v : X) (q : Digest) (x : X) → get (insert m k v) q ≡ Some x → ((q ≡ k) × (v ≡ x)) ⊎ (get m q ≡ Some x)
after_insert m k v q x e = by (eq_by_cmp digest_cmp q k) refl (sym (get-insert digests_total m k v q) ∙ e)
  where
    by : (b : Bool) → eq_by_cmp digest_cmp q k ≡ b → cond b (Some v) (get m q) ≡ Some x → ((q ≡ k) × (v ≡ x)) ⊎ (get m q ≡ Some x)
    by true at is = inl (same_digest q k at, cc)
    by false at is = inr is

pub sound_with_block : (s : State) (d : Digest) (b : Block) (vote : Bool) → IsSound s → has_other_slot certificate_slot (get s.certificates d) (block_slot b) ≡ false → s.floor ≤ b.round → IsSound (with_block s d b vote)
sound_with_block s d b vote sound fits above = record {
  own_digest = sound.own_digest;
  one_slot = λ e x c at cert.
      elim (after_insert s.blocks d b e x at) [
        | inl new ↦ let here : get s.certificates d ≡ Some c = subst (λ q. get s.certificates q ≡ Some c) new.0 cert in
            ap block_slot (sym new.1) ∙ sym (apart_slot certificate_slot (get s.certificates d) (block_slot b) c fits here)
        | inr old ↦ sound.one_slot e x c old cert
      ];
  one_certificate = sound.one_certificate;
  blocks_kept = λ e x at.
      elim (after_insert s.blocks d b e x at) [
        | inl new ↦ subst (λ (y : Block). s.floor ≤ y.round) new.1 above
        | inr old ↦ sound.blocks_kept e x old
      ];
  certificates_kept = sound.certificates_kept;
}

-- ---- a kept certificate

-- if no certified digest of the slot is found, no certificate has the slot
none_certified : (s : State) (slot : Slot) → certified_digest s slot ≡ None → (e : Digest) (x : Certificate) → get s.certificates e ≡ Some x → certificate_slot x ≡ slot → ⊥
none_certified s slot none e x at here =
    let passes : is_certified_for s slot e ≡ true = certified_passes (get s.certificates e) x slot at here in
    let held : list_any (eq_by_cmp digest_cmp e) (keys s.certificates) ≡ true = sym (contains_key-keys s.certificates e) ∙ ap is_some at in
    find_misses digest_cmp (is_certified_for s slot) e (keys s.certificates) same_digest held passes none

-- the certified digest of a slot is the one with a certificate for it
pub certified_is : (s : State) → IsSound s → (slot : Slot) (d : Digest) → (certified_digest s slot ≡ Some d) ↔ ((c : Certificate) × (get s.certificates d ≡ Some c) × (certificate_slot c ≡ slot))
certified_is s sound slot d = (there d, λ (c, at, here). by c at here (certified_digest s slot) refl)
  where
    there : (e : Digest) → certified_digest s slot ≡ Some e → (c : Certificate) × (get s.certificates e ≡ Some c) × (certificate_slot c ≡ slot)
    there e is = test_of (get s.certificates e) slot (find_passes (is_certified_for s slot) (keys s.certificates) e is)

    by : (c : Certificate) → get s.certificates d ≡ Some c → certificate_slot c ≡ slot → (found : Option Digest) → certified_digest s slot ≡ found → found ≡ Some d
    by c at here None none = absurd (none_certified s slot none d c at here)
    by c at here (Some e) is = let (x, at_e, here_e) = there e is in ap Some (sound.one_certificate e d x c at_e at (here_e ∙ sym here))

pub sound_with_certificate : (s : State) (c : Certificate) → IsSound s → certified_digest s (certificate_slot c) ≡ None → has_other_slot block_slot (get s.blocks c.digest) (certificate_slot c) ≡ false → s.floor ≤ c.round → IsSound (with_certificate s c)
sound_with_certificate s c sound first fits above = record {
  own_digest = λ e x at.
      elim (after_insert s.certificates c.digest c e x at) [
        | inl new ↦ ap (λ (y : Certificate). y.digest) (sym new.1) ∙ sym new.0
        | inr old ↦ sound.own_digest e x old
      ];
  one_slot = λ e b x held at.
      elim (after_insert s.certificates c.digest c e x at) [
        | inl new ↦ let here : get s.blocks c.digest ≡ Some b = subst (λ q. get s.blocks q ≡ Some b) new.0 held in
            apart_slot block_slot (get s.blocks c.digest) (certificate_slot c) b fits here ∙ ap certificate_slot new.1
        | inr old ↦ sound.one_slot e b x held old
      ];
  one_certificate = λ d e x y at_d at_e same.
      elim (after_insert s.certificates c.digest c d x at_d) [
        | inl new_d ↦ elim (after_insert s.certificates c.digest c e y at_e) [
          | inl new_e ↦ new_d.0 ∙ sym new_e.0
          | inr old_e ↦ absurd (none_certified s (certificate_slot c) first e y old_e (sym same ∙ ap certificate_slot (sym new_d.1)))
        ]
        | inr old_d ↦ elim (after_insert s.certificates c.digest c e y at_e) [
          | inl new_e ↦ absurd (none_certified s (certificate_slot c) first d x old_d (same ∙ ap certificate_slot (sym new_e.1)))
          | inr old_e ↦ sound.one_certificate d e x y old_d old_e same
        ]
      ];
  blocks_kept = sound.blocks_kept;
  certificates_kept = λ e x at.
      elim (after_insert s.certificates c.digest c e x at) [
        | inl new ↦ subst (λ (y : Certificate). s.floor ≤ y.round) new.1 above
        | inr old ↦ sound.certificates_kept e x old
      ];
}

pub some_none : {X : Type 0} (x : X) → Some x ≡ None → ⊥
some_none x e = cc

-- a digest found after an insertion is the inserted one, or was found before
pub after_slot : (m : FinMap slot_cmp Digest) (k : Slot) (v : Digest) (q : Slot) (x : Digest) → get (insert m k v) q ≡ Some x → ((q ≡ k) × (v ≡ x)) ⊎ (get m q ≡ Some x)
after_slot m k v q x e = by (eq_by_cmp slot_cmp q k) refl (sym (get-insert slots_total m k v q) ∙ e)
  where
    by : (b : Bool) → eq_by_cmp slot_cmp q k ≡ b → cond b (Some v) (get m q) ≡ Some x → ((q ≡ k) × (v ≡ x)) ⊎ (get m q ≡ Some x)
    by true at is = inl (slots_apart q k (tie (slot_cmp q k) at), cc)
    by false at is = inr is

-- the inserted value is found
pub at_insert : {X : Type 0} (m : FinMap digest_cmp X) (k : Digest) (v : X) → get (insert m k v) k ≡ Some v
at_insert m k v = get-insert digests_total m k v k ∙ ap (λ b. cond b (Some v) (get m k)) ((eq_by_cmp_equiv digests_total).refl k)

pub at_slot : (m : FinMap slot_cmp Digest) (k : Slot) (v : Digest) → get (insert m k v) k ≡ Some v
at_slot m k v = get-insert slots_total m k v k ∙ ap (λ b. cond b (Some v) (get m k)) ((eq_by_cmp_equiv slots_total).refl k)

-- an insertion at a free digest keeps the other values
pub still_insert : {X : Type 0} (m : FinMap digest_cmp X) (k : Digest) (v : X) (q : Digest) (x : X) → get m k ≡ None → get m q ≡ Some x → get (insert m k v) q ≡ Some x
still_insert m k v q x none at = by (eq_by_cmp digest_cmp q k) refl
  where
    by : (b : Bool) → eq_by_cmp digest_cmp q k ≡ b → get (insert m k v) q ≡ Some x
    by true is = let same : q ≡ k = same_digest q k is in absurd (some_none x (sym at ∙ ap (get m) same ∙ none))
    by false is = get-insert digests_total m k v q ∙ ap (λ b. cond b (Some v) (get m q)) is ∙ at

pub still_slot : (m : FinMap slot_cmp Digest) (k : Slot) (v : Digest) (q : Slot) (x : Digest) → get m k ≡ None → get m q ≡ Some x → get (insert m k v) q ≡ Some x
still_slot m k v q x none at = by (eq_by_cmp slot_cmp q k) refl
  where
    by : (b : Bool) → eq_by_cmp slot_cmp q k ≡ b → get (insert m k v) q ≡ Some x
    by true is = let same : q ≡ k = slots_apart q k (tie (slot_cmp q k) is) in absurd (some_none x (sym at ∙ ap (get m) same ∙ none))
    by false is = get-insert slots_total m k v q ∙ ap (λ b. cond b (Some v) (get m q)) is ∙ at

pub index_with_certificate : (s : State) (index : FinMap slot_cmp Digest) (c : Certificate) → IsIndex s.certificates index → get s.certificates c.digest ≡ None → get index (certificate_slot c) ≡ None
    → IsIndex (with_certificate s c).certificates (insert index (certificate_slot c) c.digest)
index_with_certificate s index c indexed absent first slot d = (
  λ at. elim (after_slot index (certificate_slot c) c.digest slot d at) [
    | inl new ↦ (c, subst (λ q. get (insert s.certificates c.digest c) q ≡ Some c) new.1 (at_insert s.certificates c.digest c), sym new.0)
    | inr old ↦ let held = (indexed slot d).0 old in (held.0, still_insert s.certificates c.digest c d held.0 absent held.1, held.2)
  ],
  λ (x, at, here). elim (after_insert s.certificates c.digest c d x at) [
    | inl new ↦
        let at_c : slot ≡ certificate_slot c = sym here ∙ ap certificate_slot (sym new.1) in
        subst (λ (q : Slot). get (insert index (certificate_slot c) c.digest) q ≡ Some d) (sym at_c) (at_slot index (certificate_slot c) c.digest ∙ ap Some (sym new.0))
    | inr old ↦ still_slot index (certificate_slot c) c.digest slot d first ((indexed slot d).1 (x, old, here))
  ],
)

-- ---- the invariant

nothing : {X : Type 0} (q : Digest) (x : X) → get (empty {R = digest_cmp}) q ≡ Some x → ⊥
nothing q x e = some_none x (sym e ∙ get-empty digest_cmp q)

pub kept_opening : {firsts : FinMap slot_cmp Digest} → IsSoundWithIndex (record { blocks = empty; certificates = empty; firsts = firsts; floor = 0 }) empty
kept_opening = record {
  sound = record {
    own_digest = λ d c at. absurd (nothing d c at);
    one_slot = λ d b c at cert. absurd (nothing d c cert);
    one_certificate = λ d e b c at other same. absurd (nothing d b at);
    blocks_kept = λ d b at. absurd (nothing d b at);
    certificates_kept = λ d c at. absurd (nothing d c at);
  };
  indexed = λ slot d. (
    λ at. absurd (some_none d (sym at ∙ get-empty slot_cmp slot)),
    λ (c, at, here). absurd (nothing d c at),
  );
}

-- after a write
pub kept_written : (s : State) (index : FinMap slot_cmp Digest) (d : Digest) (b : Block) (blocks : FinMap digest_cmp Block) (firsts : FinMap slot_cmp Digest)
    → IsSoundWithIndex s index → has_other_slot certificate_slot (get s.certificates d) (block_slot b) ≡ false → s.floor ≤ b.round → blocks ≡ insert s.blocks d b → IsSoundWithIndex (record s { blocks = blocks; firsts = firsts }) index
kept_written s index d b blocks firsts kept fits above is =
    let new = sound_with_block s d b false kept.sound fits above in
    rw is (record {
      sound = record { own_digest = new.own_digest; one_slot = new.one_slot; one_certificate = new.one_certificate; blocks_kept = new.blocks_kept; certificates_kept = new.certificates_kept };
      indexed = kept.indexed;
    })

-- after a write, or a failed allocation
pub kept_after_write : {E : Type 0} (r : Result (Unit {0}) E) (s : State) (index : FinMap slot_cmp Digest) (d : Digest) (b : Block) (blocks : FinMap digest_cmp Block) (firsts : FinMap slot_cmp Digest)
    → IsSoundWithIndex s index → has_other_slot certificate_slot (get s.certificates d) (block_slot b) ≡ false → s.floor ≤ b.round
    → OnOk r (blocks ≡ insert s.blocks d b) → OnErr r (blocks ≡ s.blocks) → IsSoundWithIndex (record s { blocks = blocks; firsts = firsts }) index
kept_after_write (Ok x) s index d b blocks firsts kept fits above ok err = kept_written s index d b blocks firsts kept fits above ok
kept_after_write (Err e) s index d b blocks firsts kept fits above ok err =
    let old = kept.sound in
    rw err (record {
      sound = record { own_digest = old.own_digest; one_slot = old.one_slot; one_certificate = old.one_certificate; blocks_kept = old.blocks_kept; certificates_kept = old.certificates_kept };
      indexed = kept.indexed;
    })

-- after a certificate was kept, or a failed allocation
pub kept_after_certify : {E : Type 0} (r : Result (Unit {0}) E) (s : State) (index : FinMap slot_cmp Digest) (c : Certificate) (certificates : FinMap digest_cmp Certificate) (after : FinMap slot_cmp Digest)
    → IsSoundWithIndex s index → get s.certificates c.digest ≡ None → certified_digest s (certificate_slot c) ≡ None → has_other_slot block_slot (get s.blocks c.digest) (certificate_slot c) ≡ false → s.floor ≤ c.round
    → OnOk r ((certificates ≡ insert s.certificates c.digest c) × (after ≡ insert index (certificate_slot c) c.digest)) → OnErr r ((certificates ≡ s.certificates) × (after ≡ index)) → IsSoundWithIndex (record s { certificates = certificates }) after
kept_after_certify (Ok x) s index c certificates after kept absent first fits above ok err =
    let new = sound_with_certificate s c kept.sound first fits above in
    rw (ok.0, ok.1) (record {
      sound = record { own_digest = new.own_digest; one_slot = new.one_slot; one_certificate = new.one_certificate; blocks_kept = new.blocks_kept; certificates_kept = new.certificates_kept };
      indexed = index_with_certificate s index c kept.indexed absent (index_answers s index (certificate_slot c) kept.indexed ∙ first);
    })
kept_after_certify (Err e) s index c certificates after kept absent first fits above ok err =
    let old = kept.sound in
    rw (err.0, err.1) (record {
      sound = record { own_digest = old.own_digest; one_slot = old.one_slot; one_certificate = old.one_certificate; blocks_kept = old.blocks_kept; certificates_kept = old.certificates_kept };
      indexed = kept.indexed;
    })
