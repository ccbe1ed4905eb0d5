-- The search for the ancestors of a block goes round by round.
use Rattle.nw_model.proofs.Words.{◌≡◌, ◌⊎◌, ℕ, ◌+◌, ◌<◌, ◌≤◌, true, List, [], ◌∷◌, ◌++◌, Some, None, length, refl, ap, sym, ◌∙◌, subst, arith, inl, inr, Contains, ◌==◌, FinMap, get, insert, All-contains, Contains-get_or, Contains-push, Contains-push_cases, none-some, Digest, Block, Slot, slot_cmp}
use Rattle.nw_model.specs.State.{block_slot}
use Rattle.nw_model.specs.View.{Frozen, HasParent, IsClosed, HasBlock, IsParentIn, IsPathIn, IsAncestorIn}
use Rattle.nw_model.specs.Search.{IsUnderSlot, AreUnderSlots, AreAbove, IsFoundAt, IsParentOfAny, Finds, FindsAncestors}
use Rattle.nw_model.proofs.Complete.{one_block}
use Rattle.nw_model.proofs.Kept.{after_slot, at_slot}
use Rattle.nw_model.proofs.Finding.{under_more}

-- the block under e is of the round that the search has reached. The counter starts at the floor and counts its rounds
abbrev pub IsAt : Frozen → ℕ → ℕ → Digest → Type 0
IsAt v counter end e = (b : Block) × (get v.blocks e ≡ Some b) × (b.round + counter ≡ end + v.floor)

-- only ancestors of d are found, and each of them is in the frontier, or its parents are found
pub record Explores (v : Frozen) (d : Digest) (found : FinMap slot_cmp Digest) (frontier : List Digest) (counter end : ℕ) : Type 0 where
  pub under : AreUnderSlots v found
  pub only : (slot : Slot) (e : Digest) → get found slot ≡ Some e → IsAncestorIn v d e
  pub first : IsFoundAt v found d
  pub level : (e : Digest) → Contains frontier e → IsAt v counter end e
  pub reached : (e : Digest) → Contains frontier e → IsAncestorIn v d e
  pub whole : (slot : Slot) (e : Digest) → get found slot ≡ Some e → Contains frontier e ⊎ ((f : Digest) → IsParentIn v e f → IsFoundAt v found f)

-- a path to a digest continues to its parents
pub path_on : (v : Frozen) (d e f : Digest) (path : List Digest) → IsPathIn v d path e → IsParentIn v e f → (b : Block) × HasBlock v f b → IsPathIn v d (path ++ f ∷ []) f
path_on v d e f [] (there, same) parent last = (subst (λ q. IsParentIn v q f) (sym same) parent, (last, refl))
path_on v d e f (next ∷ path) (step, on) parent last = (step, path_on v next e f path on parent last)

-- the block of a parent is of the preceding round
parent_block : (v : Frozen) (d e : Digest) (b : Block) → IsClosed v → get v.blocks d ≡ Some b → IsParentIn v d e → (p : Block) × (get v.blocks e ≡ Some p) × (p.round + 1 ≡ b.round) × (v.floor < b.round)
parent_block v d e b closed at (c, r, at_c, above, among, same) =
    let one : c ≡ b = one_block c b at_c at in
    let parent : HasParent v.blocks c.round r = All-contains (HasParent v.blocks c.round) c.parents r (closed.parents d c at_c above) among in
    (parent.0, subst (λ q. get v.blocks q ≡ Some parent.0) same parent.1, parent.3 ∙ ap (λ (x : Block). x.round) one, subst (λ (x : Block). v.floor < x.round) one above)

-- a parent of an ancestor is an ancestor
ancestor_on : (v : Frozen) (d e f : Digest) (b : Block) → IsClosed v → get v.blocks e ≡ Some b → IsAncestorIn v d e → IsParentIn v e f → IsAncestorIn v d f
ancestor_on v d e f b closed at (path, on) parent =
    let p = parent_block v e f b closed at parent in
    let before : p.0.round + 1 ≡ b.round = p.2 in
    let above : v.floor < b.round = p.3 in
    (path ++ f ∷ [], path_on v d e f path on parent (p.0, (p.1, omega (arith, before, above))))

-- at the start only the block itself is found
pub explores_first : (v : Frozen) (d : Digest) (b : Block) (empty : FinMap slot_cmp Digest) → HasBlock v d b → ((slot : Slot) → get empty slot ≡ None)
    → Explores v d (insert empty (block_slot b) d) (d ∷ []) v.floor b.round
explores_first v d b empty there none = record {
  under = λ slot e at. elim (after_slot empty (block_slot b) d slot e at) [
    | inl new ↦ subst (λ q. IsUnderSlot v slot q) new.1 (b, there, sym new.0)
    | inr old ↦ absurd (none-some e (sym (none slot) ∙ old))
  ];
  only = λ slot e at. elim (after_slot empty (block_slot b) d slot e at) [
    | inl new ↦ ([], ((b, there), new.1))
    | inr old ↦ absurd (none-some e (sym (none slot) ∙ old))
  ];
  first = (b, there.0, at_slot empty (block_slot b) d);
  level = λ e among. subst (λ q. IsAt v v.floor b.round q) (itself e among) (b, there.0, refl);
  reached = λ e among. ([], ((b, there), itself e among));
  whole = λ slot e at. elim (after_slot empty (block_slot b) d slot e at) [
    | inl new ↦ inl (subst (λ q. Contains (d ∷ []) q) new.1 (Contains-push [] d))
    | inr old ↦ absurd (none-some e (sym (none slot) ∙ old))
  ];
}
  where
    itself : (e : Digest) → Contains (d ∷ []) e → d ≡ e
    itself e among = elim (Contains-push_cases [] d e among) [
      | inl (k, lt, at) ↦ absurd (omega (arith, lt))
      | inr same ↦ same
    ]

-- the frontier's blocks are above the floor while the counter is below its end
pub explores_above : (v : Frozen) (d : Digest) (found : FinMap slot_cmp Digest) (frontier : List Digest) (counter end : ℕ) → Explores v d found frontier counter end → counter < end → AreAbove v frontier
explores_above v d found frontier counter end now lt k x within =
    let at = now.level _ (Contains-get_or frontier k x within) in
    let round : at.0.round + counter ≡ end + v.floor = at.2 in
    (at.0, at.1, omega (arith, round, lt))

-- after the parents of the frontier's blocks are found, the newly found ones are the frontier
pub explores_on : (v : Frozen) (d : Digest) (found new : FinMap slot_cmp Digest) (frontier parents : List Digest) (counter end : ℕ)
    → IsClosed v → Explores v d found frontier counter end → Finds v (IsParentOfAny v frontier) found new [] parents → Explores v d new parents (counter + 1) end
explores_on v d found new frontier parents counter end closed now finds = record {
  under = under_more v (IsParentOfAny v frontier) found new [] parents finds now.under;
  only = λ slot e at. elim (finds.adds slot e at) [
    | inl old ↦ now.only slot e old
    | inr added ↦ above e added.1
  ];
  first = still d now.first;
  level = λ e among. below e (listed e among);
  reached = λ e among. above e (listed e among);
  whole = λ slot e at. elim (finds.adds slot e at) [
    | inl old ↦ inr (λ f parent. elim (now.whole slot e old) [
      | inl among ↦ finds.finds f (e, among, parent)
      | inr all ↦ still f (all f parent)
    ])
    | inr added ↦ inl added.0
  ];
}
  where
    still : (e : Digest) → IsFoundAt v found e → IsFoundAt v new e
    still e (b, at, here) = (b, at, finds.keeps (block_slot b) e here)

    listed : (e : Digest) → Contains parents e → IsParentOfAny v frontier e
    listed e among = elim (finds.lists e among) [
      | inl (k, lt, at) ↦ absurd (omega (arith, lt))
      | inr parent ↦ parent
    ]

    above : (e : Digest) → IsParentOfAny v frontier e → IsAncestorIn v d e
    above e (p, among, parent) = let at = now.level p among in ancestor_on v d p e at.0 closed at.1 (now.reached p among) parent

    below : (e : Digest) → IsParentOfAny v frontier e → IsAt v (counter + 1) end e
    below e (p, among, parent) =
        let at = now.level p among in
        let q = parent_block v p e at.0 closed at.1 parent in
        let round : at.0.round + counter ≡ end + v.floor = at.2 in
        let before : q.0.round + 1 ≡ at.0.round = q.2 in
        (q.0, q.1, omega (arith, round, before))

-- if no block of the frontier is above the floor, all ancestors are found
all_found : (v : Frozen) (d : Digest) (found : FinMap slot_cmp Digest) (frontier : List Digest) (counter end : ℕ) → Explores v d found frontier counter end
    → ((e f : Digest) → Contains frontier e → IsParentIn v e f → ⊥) → FindsAncestors v d found
all_found v d found frontier counter end now last = record {
  under = now.under;
  only = now.only;
  each = λ e (path, on). along d path e now.first on;
}
  where
    along : (from : Digest) (path : List Digest) (to : Digest) → IsFoundAt v found from → IsPathIn v from path to → IsFoundAt v found to
    along from [] to here (there, same) = subst (λ q. IsFoundAt v found q) same here
    along from (next ∷ path) to (b, at, here) (parent, on) = along next path to (elim (now.whole (block_slot b) from here) [
      | inl among ↦ absurd (last from next among parent)
      | inr all ↦ all next parent
    ]) on

-- all ancestors are found when the counter is at its end
pub reaches_floor : (v : Frozen) (d : Digest) (found : FinMap slot_cmp Digest) (frontier : List Digest) (counter end : ℕ) → Explores v d found frontier counter end → end ≤ counter → FindsAncestors v d found
reaches_floor v d found frontier counter end now done = all_found v d found frontier counter end now (λ e f among parent.
    let at = now.level e among in
    let round : at.0.round + counter ≡ end + v.floor = at.2 in
    let one : parent.0 ≡ at.0 = one_block parent.0 at.0 parent.2 at.1 in
    let above : v.floor < parent.0.round = parent.3 in
    omega (arith, done, round, above, ap (λ (x : Block). x.round) one))

-- all ancestors are found when the frontier is empty
pub reaches_early : (v : Frozen) (d : Digest) (found : FinMap slot_cmp Digest) (frontier : List Digest) (counter end : ℕ) → Explores v d found frontier counter end → length frontier ≡ 0 → FindsAncestors v d found
reaches_early v d found frontier counter end now empty = all_found v d found frontier counter end now (λ e f (k, lt, at) parent. omega (arith, lt, empty))

-- a test for 0 decides whether the number is 0
pub none_left : (n : ℕ) → true ≡ (n == 0) → n ≡ 0
none_left n e = grind arith
