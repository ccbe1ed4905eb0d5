-- The ancestors of a block are found round by round.
use Rattle.nw_causal.proofs.Words.{◌≡◌, ◌⊎◌, ℕ, ◌+◌, ◌<◌, ◌≤◌, List, [], ◌∷◌, ◌++◌, Some, All, ap, sym, ◌∙◌, subst, arith, inl, inr, Contains, get, All-nil, All-append, All-contains, Digest, Block, IsParentOfAny, Frozen, IsClosed, HasBlock, IsParentIn, IsPathIn, IsAncestorIn, one_block, contains_first, contains_cases, contains_none}
use Rattle.std.specs.List.Sorted.{IsStrictlySortedBy}
use Rattle.std.proofs.lemmas.List.{map-append}
use Rattle.std.proofs.lemmas.List.Elements.{Contains-append_left, Contains-append_right, Contains-append_cases}
use Rattle.nw_model.proofs.Finding.{there_is}
use Rattle.nw_model.proofs.Ancestors.{path_on}
use Rattle.nw_causal.specs.declared.ancestor.Ancestor.{Ancestor}
use Rattle.nw_causal.specs.Looked.{AreAt, AreFound, Gains, IsLevel, descending, digests}
use Rattle.nw_causal.proofs.Agreeing.{named_by}
use Rattle.nw_causal.proofs.Levels.{ancestor_of, level_none, level_one, order_both}

-- the digest is in one list or the other
abbrev pub IsIn : List Ancestor → List Ancestor → Digest → Type 0
IsIn found level e = Contains (digests found) e ⊎ Contains (digests level) e

-- the loop of `ancestors` has found these ancestors of d with all their parents; the last level's parents are next
pub record Explores (v : Frozen) (d : Digest) (found level : List Ancestor) (round : ℕ) : Type 0 where
  pub floor : v.floor ≤ round
  pub last : IsLevel v round level
  pub at : AreAt v found
  pub later : All (λ (a : Ancestor). round < a.block.now.round) found
  pub order : IsStrictlySortedBy descending found
  pub first : IsIn found level d
  pub only : (e : Digest) → IsIn found level e → IsAncestorIn v d e
  pub whole : (e f : Digest) → Contains (digests found) e → IsParentIn v e f → IsIn found level f

-- a parent of an ancestor is an ancestor
ancestor_on : (v : Frozen) (d e f : Digest) → IsClosed v → IsAncestorIn v d e → IsParentIn v e f → IsAncestorIn v d f
ancestor_on v d e f closed (path, on) (b, r, at, above, among, same) =
    let p = named_by v e f b r closed at above among same in
    (path ++ f ∷ [], path_on v d e f path on (b, r, at, above, among, same) (p.0, p.1))

in_both : (found level : List Ancestor) (e : Digest) → IsIn found level e → Contains (digests (found ++ level)) e
in_both found level e (inl among) = rw (map-append (λ (a : Ancestor). a.digest.now) found level) (Contains-append_left (digests found) (digests level) e among)
in_both found level e (inr among) = rw (map-append (λ (a : Ancestor). a.digest.now) found level) (Contains-append_right (digests found) (digests level) e among)

in_either : (found level : List Ancestor) (e : Digest) → Contains (digests (found ++ level)) e → IsIn found level e
in_either found level e among = Contains-append_cases (digests found) (digests level) e (rw (← map-append (λ (a : Ancestor). a.digest.now) found level) among)

-- at first the level is the block itself
pub explores_first : (v : Frozen) (d : Digest) (a : Ancestor) → (b : Block) × HasBlock v d b → a.digest.now ≡ d → get v.blocks d ≡ Some a.block.now → Explores v d [] (a ∷ []) a.block.now.round
explores_first v d a there named at =
    let here : HasBlock v d a.block.now = there_is v d a.block.now there at in
    record {
      floor = here.1;
      last = level_one v a (ap (get v.blocks) named ∙ at);
      at = All-nil _;
      later = All-nil _;
      order = (level_none v 0).order;
      first = inr (subst (λ q. Contains (a.digest.now ∷ []) q) named (contains_first a.digest.now []));
      only = λ e among. elim among [
        | inl none ↦ absurd (contains_none e none)
        | inr itself ↦ elim (contains_cases a.digest.now [] e itself) [
          | inl same ↦ ([], ((a.block.now, here), sym named ∙ same))
          | inr none ↦ absurd (contains_none e none)
        ]
      ];
      whole = λ e f none parent. absurd (contains_none e none);
    }

-- after the level's parents are found, they are the next level
pub explores_on : (v : Frozen) (d : Digest) (found level parents : List Ancestor) (round next : ℕ) → IsClosed v → Explores v d found level round → next + 1 ≡ round → v.floor ≤ next
    → IsLevel v next parents → Gains (IsParentOfAny v (digests level)) [] parents → Explores v d (found ++ level) parents next
explores_on v d found level parents round next closed now before floor is gains = record {
  floor = floor;
  last = is;
  at = All-append (λ (a : Ancestor). get v.blocks a.digest.now ≡ Some a.block.now) found level now.at now.last.at;
  later = All-append (λ (a : Ancestor). next < a.block.now.round) found level
      (λ k a lt. let later = now.later k a lt in omega (arith, later, before)) (λ k a lt. let here = now.last.rounds k a lt in omega (arith, here, before));
  order = order_both v round found level now.later now.last now.order;
  first = inl (in_both found level d now.first);
  only = λ e among. elim among [
    | inl old ↦ now.only e (in_either found level e old)
    | inr new ↦ elim ((gains e).0 new) [
      | inl none ↦ absurd (contains_none e none)
      | inr parent ↦ ancestor_on v d parent.0 e closed (now.only parent.0 (inr parent.1)) parent.2
    ]
  ];
  whole = λ e f among parent. elim (in_either found level e among) [
    | inl old ↦ inl (in_both found level f (now.whole e f old parent))
    | inr last ↦ inr ((gains f).1 (inr (e, last, parent)))
  ];
}

-- if the last level has no parents in the view, all ancestors are found
pub explores_all : (v : Frozen) (d : Digest) (found level : List Ancestor) (round : ℕ) → Explores v d found level round → (v.floor < round → level ≡ []) → AreFound v d (found ++ level)
explores_all v d found level round now last = record {
  at = All-append (λ (a : Ancestor). get v.blocks a.digest.now ≡ Some a.block.now) found level now.at now.last.at;
  exactly = λ e. (λ among. now.only e (in_either found level e among), λ (path, on). in_both found level e (along d path e now.first on));
  order = order_both v round found level now.later now.last now.order;
}
  where
    none_above : (e f : Digest) → Contains (digests level) e → IsParentIn v e f → ⊥
    none_above e f among (b, r, at, above, named, same_digest) =
        let (a, last_one, same) = ancestor_of level e among in
        let held : get v.blocks a.digest.now ≡ Some a.block.now = All-contains (λ (x : Ancestor). get v.blocks x.digest.now ≡ Some x.block.now) level a now.last.at last_one in
        let one : a.block.now ≡ b = one_block a.block.now b (subst (λ q. get v.blocks q ≡ Some a.block.now) same held) at in
        let here : a.block.now.round ≡ round = All-contains (λ (x : Ancestor). x.block.now.round ≡ round) level a now.last.rounds last_one in
        contains_none e (subst (λ xs. Contains (digests xs) e) (last (omega (arith, above, here, ap (λ (x : Block). x.round) one))) among)

    along : (from : Digest) (path : List Digest) (to : Digest) → IsIn found level from → IsPathIn v from path to → IsIn found level to
    along from [] to here (there, same) = subst (λ q. IsIn found level q) same here
    along from (next ∷ path) to here (parent, on) = along next path to (elim here [
      | inl old ↦ now.whole from next old parent
      | inr among ↦ absurd (none_above from next among parent)
    ]) on
