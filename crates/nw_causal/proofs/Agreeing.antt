-- The walks of a digest in two views are equal exactly when no two blocks collide at its ancestors.
use Rattle.nw_causal.proofs.Words.{◌≡◌, ◌⊎◌, ◌+◌, ◌<◌, List, [], ◌∷◌, Some, map, refl, ap, sym, ◌∙◌, subst, arith, inl, inr, Contains, FinMap, get, All-contains, Digest, Ref, Block, digest_cmp, contains_first, contains_later, Frozen, HasParent, IsClosed, HasBlock, IsParentIn, IsPathIn, IsAncestorIn, IsWalk, one_block}
use Rattle.nw_model.specs.State.{block_slot}
use Rattle.nw_model.proofs.Listed.{block_of, digest_of}
use Rattle.nw_causal.specs.Agreement.{HaveOneWalk, CollideAt, IsMatched, MatchAt}

-- ---- the other block under a digest

-- if the first view's block has no rival, the blocks match
pub match_at : (v w : Frozen) (e : Digest) (b : Block) → get v.blocks e ≡ Some b → IsMatched w e b → MatchAt v w e
match_at v w e b at matched p q there_p there_q = one_block p b there_p.0 at ∙ matched q there_q

-- ---- down from a block of both views

-- the reference of a block to its parent
parent_of : (v : Frozen) (d e : Digest) (b : Block) → get v.blocks d ≡ Some b → IsParentIn v d e
    → (r : Ref) × Contains b.parents r × (r.digest ≡ e) × (v.floor < b.round)
parent_of v d e b at (c, r, at_c, above, among, same) =
    let one : c ≡ b = one_block c b at_c at in
    (r, subst (λ (x : Block). Contains x.parents r) one among, same, subst (λ (x : Block). v.floor < x.round) one above)

-- a reference of a block above the floor names a block of the preceding round with the named author
pub named_by : (v : Frozen) (d e : Digest) (b : Block) (r : Ref) → IsClosed v → get v.blocks d ≡ Some b → v.floor < b.round → Contains b.parents r → r.digest ≡ e
    → (p : Block) × HasBlock v e p × (p.author ≡ r.author) × (p.round + 1 ≡ b.round)
named_by v d e b r closed at above among same =
    let has : HasParent v.blocks b.round r = All-contains (HasParent v.blocks b.round) b.parents r (closed.parents d b at above) among in
    let before : has.0.round + 1 ≡ b.round = has.3 in
    (has.0, (subst (λ q. get v.blocks q ≡ Some has.0) same has.1, omega (arith, before, above)), has.2, has.3)

-- a path leads to lower rounds
lower : (v : Frozen) (d : Digest) (path : List Digest) (a : Digest) (b p : Block) → IsClosed v → get v.blocks d ≡ Some b → get v.blocks a ≡ Some p → IsPathIn v d path a → (d ≡ a) ⊎ (p.round < b.round)
lower v d [] a b p closed at_d at_a on = inl on.1
lower v d (e ∷ path) a b p closed at_d at_a (parent, on) =
    let named = parent_of v d e b at_d parent in
    let q = named_by v d e b named.0 closed at_d named.3 named.1 named.2 in
    let before : q.0.round + 1 ≡ b.round = q.3 in
    elim (lower v e path a q.0 p closed q.1.0 at_a on) [
      | inl same ↦
          let one : q.0 ≡ p = one_block q.0 p (subst (λ x. get v.blocks x ≡ Some q.0) same q.1.0) at_a in
          let rounds : q.0.round ≡ p.round = ap (λ (x : Block). x.round) one in
          inr (omega (arith, before, rounds))
      | inr less ↦ inr (omega (arith, before, less))
    ]

-- blocks of one slot under the digest in both views are equal
abbrev pub IsOne : Frozen → Frozen → Digest → Type 0
IsOne v w e = (p q : Block) → HasBlock v e p → HasBlock w e q → block_slot p ≡ block_slot q → p ≡ q

-- this holds for each common ancestor
abbrev pub AreOne : Frozen → Frozen → Digest → Type 0
AreOne v w d = (e : Digest) → IsAncestorIn v d e → IsAncestorIn w d e → IsOne v w e

-- both views have the same block under the digest
abbrev pub IsShared : Frozen → Frozen → Digest → Type 0
IsShared v w e = (b : Block) × HasBlock v e b × HasBlock w e b

-- if both views have the block, a parent in the first is a parent in the other, and the parent's blocks are of one slot
both_parents : (v w : Frozen) (d e : Digest) (b : Block) → IsClosed v → IsClosed w → v.floor ≡ w.floor → get v.blocks d ≡ Some b → get w.blocks d ≡ Some b → IsParentIn v d e
    → (p : Block) × (q : Block) × HasBlock v e p × HasBlock w e q × (block_slot p ≡ block_slot q) × IsParentIn w d e
both_parents v w d e b closed_v closed_w floor at_v at_w parent =
    let named = parent_of v d e b at_v parent in
    let r : Ref = named.0 in
    let above_v : v.floor < b.round = named.3 in
    let above_w : w.floor < b.round = omega (arith, above_v, floor) in
    let p = named_by v d e b r closed_v at_v above_v named.1 named.2 in
    let q = named_by w d e b r closed_w at_w above_w named.1 named.2 in
    let round_p : p.0.round + 1 ≡ b.round = p.3 in
    let round_q : q.0.round + 1 ≡ b.round = q.3 in
    let rounds : p.0.round ≡ q.0.round = omega (arith, round_p, round_q) in
    let authors : p.0.author ≡ q.0.author = p.2 ∙ sym q.2 in
    (p.0, q.0, p.1, q.1, λ i. (rounds i, authors i), (b, r, at_w, above_w, named.1, named.2))

-- a path in the first view is a path in the other, and leads to the same block
same_path : (v w : Frozen) (d : Digest) (path : List Digest) (a : Digest) → IsClosed v → IsClosed w → v.floor ≡ w.floor → IsShared v w d → AreOne v w d → IsPathIn v d path a
    → IsPathIn w d path a × IsShared v w a
same_path v w d [] a closed_v closed_w floor (b, in_v, in_w) one on = (((b, in_w), on.1), subst (λ q. IsShared v w q) on.1 (b, in_v, in_w))
same_path v w d (e ∷ path) a closed_v closed_w floor (b, in_v, in_w) one (parent, on) =
    let both = both_parents v w d e b closed_v closed_w floor in_v.0 in_w.0 parent in
    let p : Block = both.0 in
    let q : Block = both.1 in
    let p_there : HasBlock v e p = both.2 in
    let q_there : HasBlock w e q = both.3 in
    let in_other : IsParentIn w d e = both.5 in
    let same : p ≡ q = one e (e ∷ [], (parent, ((p, p_there), refl))) (e ∷ [], (in_other, ((q, q_there), refl))) p q p_there q_there both.4 in
    let below = same_path v w e path a closed_v closed_w floor (p, p_there, subst (λ x. HasBlock w e x) (sym same) q_there)
    (λ f one_way other_way. one f (e ∷ one_way.0, (parent, one_way.1)) (e ∷ other_way.0, (in_other, other_way.1))) on in
    ((in_other, below.0), below.1)

-- both views have the same ancestors, each with the same block
record HaveSame (v w : Frozen) (d : Digest) : Type 0 where
  to : (a : Digest) → IsAncestorIn v d a → IsAncestorIn w d a
  from : (a : Digest) → IsAncestorIn w d a → IsAncestorIn v d a
  shared : (a : Digest) → IsAncestorIn v d a → IsShared v w a

have_same : (v w : Frozen) (d : Digest) → IsClosed v → IsClosed w → v.floor ≡ w.floor → IsShared v w d → AreOne v w d → HaveSame v w d
have_same v w d closed_v closed_w floor shared one = record {
  to = λ a (path, on). (path, (same_path v w d path a closed_v closed_w floor shared one on).0);
  from = λ a (path, on). (path, (same_path w v d path a closed_w closed_v (sym floor) (shared.0, shared.2, shared.1) back on).0);
  shared = λ a (path, on). (same_path v w d path a closed_v closed_w floor shared one on).1;
}
  where
    back : AreOne w v d
    back e in_w in_v q p q_there p_there slots = sym (one e in_v in_w p q p_there q_there (sym slots))

-- ---- if nothing collides, one list is the walk in both views

-- maps that agree at some digests have the same blocks under them
same_under : (m n : FinMap digest_cmp Block) (digests : List Digest) → ((a : Digest) → Contains digests a → get m a ≡ get n a) → map (get m) digests ≡ map (get n) digests
same_under m n [] agree = refl
same_under m n (a ∷ digests) agree =
    let first : get m a ≡ get n a = agree a (contains_first a digests) in
    let rest : map (get m) digests ≡ map (get n) digests = same_under m n digests (λ e among. agree e (contains_later a digests e among)) in
    cc

-- if the blocks match at each ancestor, the walks in both views are equal
pub one_walk : (v w : Frozen) (d : Digest) (blocks : List Block) → IsClosed v → IsClosed w → v.floor ≡ w.floor → (b : Block) × HasBlock v d b → (b : Block) × HasBlock w d b
    → IsWalk v d blocks → ((a : Digest) → IsAncestorIn v d a → MatchAt v w a) → HaveOneWalk v w d
one_walk v w d blocks closed_v closed_w floor (b, in_v) (c, in_w) walk at = (
  blocks,
  walk,
  record {
    digests = walk.digests;
    found = same_under w.blocks v.blocks walk.digests (λ a among. let both = same.shared a ((walk.exactly a).0 among) in both.2.0 ∙ sym both.1.0) ∙ walk.found;
    exactly = λ a. (λ among. same.to a ((walk.exactly a).0 among), λ ancestor. (walk.exactly a).1 (same.from a ancestor));
    ascending = walk.ascending;
  },
)
  where
    shared : IsShared v w d
    shared = let one : b ≡ c = at d ([], ((b, in_v), refl)) b c in_v in_w in (b, in_v, subst (λ x. HasBlock w d x) (sym one) in_w)

    same : HaveSame v w d
    same = have_same v w d closed_v closed_w floor shared (λ e ancestor other p q p_there q_there slots. at e ancestor p q p_there q_there)

-- ---- if one list is the walk in both views, nothing collides

-- the other view has each block of the first walk, under an ancestor there
in_other : (v w : Frozen) (d e : Digest) (p : Block) → HaveOneWalk v w d → IsAncestorIn v d e → get v.blocks e ≡ Some p → (x : Digest) × IsAncestorIn w d x × (get w.blocks x ≡ Some p)
in_other v w d e p (blocks, walk_v, walk_w) ancestor at =
    let listed = block_of v.blocks walk_v.digests blocks e walk_v.found ((walk_v.exactly e).1 ancestor) in
    let same : listed.0 ≡ p = one_block listed.0 p listed.2 at in
    let under = digest_of w.blocks walk_w.digests blocks listed.0 walk_w.found listed.1 in
    (under.0, (walk_w.exactly under.0).0 under.1, under.2 ∙ ap Some same)

-- at common ancestors, blocks of one slot are equal
ones : (v w : Frozen) (d : Digest) → IsClosed w → HaveOneWalk v w d → AreOne v w d
ones v w d closed_w walks e ancestor other p q p_there q_there slots =
    let x = in_other v w d e p walks ancestor p_there.0 in
    let same : e ≡ x.0 = closed_w.apart e x.0 q p q_there.0 x.2 q_there.1 (sym slots) in
    one_block p q (subst (λ z. get w.blocks z ≡ Some p) (sym same) x.2) q_there.0

-- the digest's blocks in the two views are equal, since each is the highest of its walk
one_top : (v w : Frozen) (d : Digest) (b c : Block) → IsClosed v → IsClosed w → HasBlock v d b → HasBlock w d c → HaveOneWalk v w d → b ≡ c
one_top v w d b c closed_v closed_w in_v in_w walks =
    let x = in_other v w d d b walks ([], ((b, in_v), refl)) in_v.0 in
    let y = in_other w v d d c (walks.0, walks.2, walks.1) ([], ((c, in_w), refl)) in_w.0 in
    elim (lower w d x.1.0 x.0 c b closed_w in_w.0 x.2 x.1.1) [
      | inl same ↦ one_block b c (subst (λ z. get w.blocks z ≡ Some b) (sym same) x.2) in_w.0
      | inr below ↦ elim (lower v d y.1.0 y.0 b c closed_v in_v.0 y.2 y.1.1) [
        | inl same ↦ one_block b c in_v.0 (subst (λ z. get v.blocks z ≡ Some c) (sym same) y.2)
        | inr above ↦ absurd (omega (arith, below, above))
      ]
    ]

-- if blocks collide at an ancestor, no list is the walk in both views
pub no_walk : (v w : Frozen) (d e : Digest) (b c : Block) → IsClosed v → IsClosed w → v.floor ≡ w.floor → (b : Block) × HasBlock v d b → (b : Block) × HasBlock w d b
    → IsAncestorIn v d e → CollideAt v w e b c → HaveOneWalk v w d → ⊥
no_walk v w d e b c closed_v closed_w floor (x, in_v) (y, in_w) (path, on) (b_there, c_there, differ) walks =
    let top : x ≡ y = one_top v w d x y closed_v closed_w in_v in_w walks in
    let both = (same_path v w d path e closed_v closed_w floor (x, in_v, subst (λ z. HasBlock w d z) (sym top) in_w) (ones v w d closed_w walks) on).1 in
    differ (one_block b both.0 b_there.0 both.1.0 ∙ one_block both.0 c both.2.0 c_there.0)
