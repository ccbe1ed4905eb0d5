-- A search finds digests one after the other.
use Rattle.nw_model.proofs.Words.{◌≡◌, ◌↔◌, ◌⊎◌, ℕ, ◌+◌, ◌<◌, ◌≤◌, true, false, List, [], ◌∷◌, ◌++◌, Some, is_some, length, take, get_or, ap, sym, ◌∙◌, subst, arith, inl, inr, Contains, FinMap, get, insert, Contains-push, Contains-push_cases, Digest, Ref, Block, slot_cmp, which, is_absent}
use Rattle.std.proofs.Common.{All}
use Rattle.std.proofs.lemmas.List.{take_more}
use Rattle.std.proofs.lemmas.List.Elements.{Contains-append_left}
use Rattle.nw_model.specs.State.{block_slot}
use Rattle.nw_model.specs.View.{Frozen, IsClosed, HasBlock, IsParentIn}
use Rattle.nw_model.specs.Search.{IsUnderSlot, AreUnderSlots, IsFoundAt, IsNamed, IsParentOfAny, Finds}
use Rattle.nw_model.proofs.Complete.{one_block}
use Rattle.nw_model.proofs.Kept.{after_slot, at_slot, still_slot}

-- ---- steps of a search

-- a search for no digests finds nothing
pub finds_nothing : (v : Frozen) (P : Digest → Type 0) (found : FinMap slot_cmp Digest) (listed : List Digest) → ((e : Digest) → P e → ⊥) → Finds v P found found listed listed
finds_nothing v P found listed none = record {
  keeps = λ slot e at. at;
  finds = λ e p. absurd (none e p);
  adds = λ slot e at. inl at;
  stays = λ e among. among;
  lists = λ e among. inl among;
}

-- two searches in sequence
pub finds_on : (v : Frozen) (P Q R : Digest → Type 0) (a b c : FinMap slot_cmp Digest) (xs ys zs : List Digest)
    → Finds v P a b xs ys → Finds v Q b c ys zs → ((e : Digest) → R e ↔ (P e ⊎ Q e)) → Finds v R a c xs zs
finds_on v P Q R a b c xs ys zs one two both = record {
  keeps = λ slot e at. two.keeps slot e (one.keeps slot e at);
  finds = λ e r. elim ((both e).0 r) [
    | inl p ↦ let at = one.finds e p in (at.0, at.1, two.keeps (block_slot at.0) e at.2)
    | inr q ↦ two.finds e q
  ];
  adds = λ slot e at. elim (two.adds slot e at) [
    | inl before ↦ elim (one.adds slot e before) [
      | inl first ↦ inl first
      | inr new ↦ inr (two.stays e new.0, (both e).1 (inl new.1), new.2)
    ]
    | inr new ↦ inr (new.0, (both e).1 (inr new.1), new.2)
  ];
  stays = λ e among. two.stays e (one.stays e among);
  lists = λ e among. elim (two.lists e among) [
    | inl before ↦ elim (one.lists e before) [
      | inl first ↦ inl first
      | inr p ↦ inr ((both e).1 (inl p))
    ]
    | inr q ↦ inr ((both e).1 (inr q))
  ];
}

-- found digests are under the slots of their blocks
pub under_more : (v : Frozen) (P : Digest → Type 0) (a b : FinMap slot_cmp Digest) (xs ys : List Digest) → Finds v P a b xs ys → AreUnderSlots v a → AreUnderSlots v b
under_more v P a b xs ys one under slot e at = elim (one.adds slot e at) [
  | inl before ↦ under slot e before
  | inr new ↦ new.2
]

-- if the slot is taken, the digest was found before
pub finds_again : (v : Frozen) (found : FinMap slot_cmp Digest) (listed : List Digest) (d : Digest) (b : Block)
    → IsClosed v → AreUnderSlots v found → get v.blocks d ≡ Some b → is_some (get found (block_slot b)) ≡ true → Finds v (λ e. d ≡ e) found found listed listed
finds_again v found listed d b closed under at taken = record {
  keeps = λ slot e h. h;
  finds = λ e same. subst (λ q. IsFoundAt v found q) same (b, at, here);
  adds = λ slot e h. inl h;
  stays = λ e among. among;
  lists = λ e among. inl among;
}
  where
    here : get found (block_slot b) ≡ Some d
    here =
        let there = which (get found (block_slot b)) taken in
        let held = under (block_slot b) there.0 there.1 in
        there.1 ∙ ap Some (closed.apart there.0 d held.0 b held.1.0 at held.1.1 held.2)

-- if the slot is free, the digest is found now
pub finds_one : (v : Frozen) (found : FinMap slot_cmp Digest) (listed : List Digest) (d : Digest) (b : Block)
    → HasBlock v d b → is_some (get found (block_slot b)) ≡ false → Finds v (λ e. d ≡ e) found (insert found (block_slot b) d) listed (listed ++ d ∷ [])
finds_one v found listed d b there free = record {
  keeps = λ slot e h. still_slot found (block_slot b) d slot e (is_absent (get found (block_slot b)) free) h;
  finds = λ e same. subst (λ q. IsFoundAt v (insert found (block_slot b) d) q) same (b, there.0, at_slot found (block_slot b) d);
  adds = λ slot e h. elim (after_slot found (block_slot b) d slot e h) [
    | inl new ↦ inr (subst (λ q. Contains (listed ++ d ∷ []) q) new.1 (Contains-push listed d), new.1, subst (λ q. IsUnderSlot v slot q) new.1 (b, there, sym new.0))
    | inr before ↦ inl before
  ];
  stays = λ e among. Contains-append_left listed (d ∷ []) e among;
  lists = λ e among. Contains-push_cases listed d e among;
}

-- ---- the first few references, and the first few digests

pub names_nothing : (e : Digest) → IsNamed [] e → ⊥
names_nothing e (r, among, same) = absurd (omega (arith, among.1))

pub names_more : (refs : List Ref) (i : ℕ) (d : Ref) → i < length refs → (e : Digest) → IsNamed (take (i + 1) refs) e ↔ (IsNamed (take i refs) e ⊎ ((get_or refs i d).digest ≡ e))
names_more refs i d lt e = rw (take_more refs i d lt) (
  λ (r, among, same). elim (Contains-push_cases (take i refs) (get_or refs i d) r among) [
    | inl before ↦ inl (r, before, same)
    | inr last ↦ inr (ap (λ (x : Ref). x.digest) last ∙ same)
  ],
  λ which. elim which [
    | inl (r, among, same) ↦ (r, Contains-append_left (take i refs) (get_or refs i d ∷ []) r among, same)
    | inr same ↦ (get_or refs i d, Contains-push (take i refs) (get_or refs i d), same)
  ],
)

pub parents_nothing : (v : Frozen) (e : Digest) → IsParentOfAny v [] e → ⊥
parents_nothing v e (d, among, parent) = absurd (omega (arith, among.1))

-- the parents of a digest whose block is above the floor
named_parents : (v : Frozen) (d : Digest) (b : Block) → get v.blocks d ≡ Some b → v.floor < b.round → (e : Digest) → IsParentIn v d e ↔ IsNamed b.parents e
named_parents v d b at above e = (
  λ (c, r, at_c, above_c, among, same). (r, subst (λ (x : Block). Contains x.parents r) (one_block c b at_c at) among, same),
  λ (r, among, same). (b, r, at, above, among, same),
)

pub parents_more : (v : Frozen) (digests : List Digest) (i : ℕ) (d : Digest) (b : Block) → i < length digests → get v.blocks (get_or digests i d) ≡ Some b → v.floor < b.round
    → (e : Digest) → IsParentOfAny v (take (i + 1) digests) e ↔ (IsParentOfAny v (take i digests) e ⊎ IsNamed b.parents e)
parents_more v digests i d b lt at above e = rw (take_more digests i d lt) (
  λ (c, among, parent). elim (Contains-push_cases (take i digests) (get_or digests i d) c among) [
    | inl before ↦ inl (c, before, parent)
    | inr last ↦ inr ((named_parents v (get_or digests i d) b at above e).0 (subst (λ q. IsParentIn v q e) (sym last) parent))
  ],
  λ which. elim which [
    | inl (c, among, parent) ↦ (c, Contains-append_left (take i digests) (get_or digests i d ∷ []) c among, parent)
    | inr named ↦ (get_or digests i d, Contains-push (take i digests) (get_or digests i d), (named_parents v (get_or digests i d) b at above e).1 named)
  ],
)

-- one more reference
pub names_on : (v : Frozen) (refs : List Ref) (i : ℕ) (d : Ref) (a b c : FinMap slot_cmp Digest) (xs ys zs : List Digest) → i < length refs
    → Finds v (IsNamed (take i refs)) a b xs ys → Finds v (λ e. (get_or refs i d).digest ≡ e) b c ys zs → Finds v (IsNamed (take (i + 1) refs)) a c xs zs
names_on v refs i d a b c xs ys zs lt one two = finds_on v (IsNamed (take i refs)) (λ e. (get_or refs i d).digest ≡ e) (IsNamed (take (i + 1) refs)) a b c xs ys zs one two (names_more refs i d lt)

-- one more digest
pub parents_on : (v : Frozen) (digests : List Digest) (i : ℕ) (d : Digest) (x : Block) (a b c : FinMap slot_cmp Digest) (xs ys zs : List Digest)
    → i < length digests → get v.blocks (get_or digests i d) ≡ Some x → v.floor < x.round
    → Finds v (IsParentOfAny v (take i digests)) a b xs ys → Finds v (IsNamed x.parents) b c ys zs → Finds v (IsParentOfAny v (take (i + 1) digests)) a c xs zs
parents_on v digests i d x a b c xs ys zs lt at above one two =
    finds_on v (IsParentOfAny v (take i digests)) (IsNamed x.parents) (IsParentOfAny v (take (i + 1) digests)) a b c xs ys zs one two (parents_more v digests i d x lt at above)

-- the view has the block of each of its digests
pub there_is : (v : Frozen) (d : Digest) (b : Block) → (x : Block) × HasBlock v d x → get v.blocks d ≡ Some b → HasBlock v d b
there_is v d b (x, there) at = (at, subst (λ (y : Block). v.floor ≤ y.round) (one_block x b there.0 at) there.1)

-- the view has the parents of a block above the floor
pub parents_there : (v : Frozen) (d : Digest) (b : Block) → IsClosed v → get v.blocks d ≡ Some b → v.floor < b.round → All (λ r. (p : Block) × HasBlock v r.digest p) b.parents
parents_there v d b closed at above k r lt =
    let held = closed.parents d b at above k r lt in
    let before : held.0.round + 1 ≡ b.round = held.3 in
    (held.0, (held.1, omega (arith, before)))

-- a block that is found under a digest above the floor is above the floor
pub above_is : (v : Frozen) (d : Digest) (b : Block) → (x : Block) × (get v.blocks d ≡ Some x) × (v.floor < x.round) → get v.blocks d ≡ Some b → v.floor < b.round
above_is v d b (x, there, above) at = subst (λ (y : Block). v.floor < y.round) (one_block x b there at) above
