-- Complete blocks are those of the garbage round, and those whose parents are complete.
use Rattle.nw_model.proofs.Words.{◌≡◌, ◌↔◌, ◌⊎◌, ℕ, ◌+◌, ◌<◌, ◌≤◌, true, false, List, [], ◌∷◌, Option, Some, None, IsSome, is_some, IsTrue, nat_eq, get_or, refl, ap, sym, ◌∙◌, subst, arith, inl, inr, Contains, nat_cmp, FinMap, get, All-contains, Contains-get_or, none-some, Digest, Ref, Block, digest_cmp, which}
use Rattle.std.proofs.Common.{All}
use Rattle.std.specs.Ordering.{is_le}
use Rattle.nw_model.specs.State.{State}
use Rattle.nw_model.specs.Paths.{IsStanding, IsSatisfied, IsParent, IsPath, IsComplete}
use Rattle.nw_model.specs.Sound.{IsSound}
use Rattle.nw_model.specs.View.{Frozen, HasParent, IsClosed, Shows, AreComplete}

-- at most one block stands under a digest
pub one_block : {found : Option Block} (b c : Block) → found ≡ Some b → found ≡ Some c → b ≡ c
one_block b c e f = cc

-- a parent of a complete block is complete
pub parent_complete : (s : State) (d e : Digest) → IsComplete s d → IsParent s d e → IsComplete s e
parent_complete s d e whole (b, r, stands, among, satisfied, named) = record {
  stands = (satisfied.0, subst (λ q. IsStanding s q satisfied.0) named satisfied.1);
  whole = λ a x anc stands_a above. whole.whole a x (e ∷ anc.0, ((b, r, stands, among, satisfied, named), anc.1)) stands_a above;
}

-- the parents of a complete block above the garbage round
pub parents_complete : (s : State) (d : Digest) (b : Block) → IsComplete s d → IsStanding s d b → s.floor < b.round → All (λ r. IsSatisfied s b.round r × IsComplete s r.digest) b.parents
parents_complete s d b whole stands above k r lt =
    let satisfied = whole.whole d b ([], ((b, stands), refl)) stands above k r lt in
    (satisfied, parent_complete s d (get_or b.parents k r).digest whole (b, get_or b.parents k r, stands, Contains-get_or b.parents k r lt, satisfied, refl))

-- a block that stands is complete if it is of the garbage round, or if its parents are complete
pub complete_from_parents : (s : State) (d : Digest) (b : Block) → IsSound s → IsStanding s d b → (b.round ≤ s.floor) ⊎ All (λ r. IsSatisfied s b.round r × IsComplete s r.digest) b.parents → IsComplete s d
complete_from_parents s d b sound stands how = record {
  stands = (b, stands);
  whole = λ a x anc stands_a above. by a x anc.0 anc.1 stands_a above how;
}
  where
    by : (a : Digest) (x : Block) (path : List Digest) → IsPath s d path a → IsStanding s a x → s.floor < x.round
        → (b.round ≤ s.floor) ⊎ All (λ r. IsSatisfied s b.round r × IsComplete s r.digest) b.parents → All (IsSatisfied s x.round) x.parents
    by a x [] (stands_d, same) stands_a above (inl low) =
        let here : b ≡ x = one_block b x stands.0 (subst (λ q. get s.blocks q ≡ Some x) (sym same) stands_a.0) in
        absurd (omega (arith, ap (λ (y : Block). y.round) here))
    by a x [] (stands_d, same) stands_a above (inr parents) =
        let here : b ≡ x = one_block b x stands.0 (subst (λ q. get s.blocks q ≡ Some x) (sym same) stands_a.0) in
        subst (λ (y : Block). All (IsSatisfied s y.round) y.parents) here (λ k r lt. (parents k r lt).0)
    by a x (e ∷ path) (parent, on) stands_a above (inl low) =
        let here : parent.0 ≡ b = one_block parent.0 b parent.2.0 stands.0 in
        let kept = sound.blocks_kept parent.1.digest parent.4.0 parent.4.1.0 in
        absurd (omega (arith, ap (λ (y : Block). y.round) here, parent.4.3, kept))
    by a x (e ∷ path) (parent, on) stands_a above (inr parents) =
        let here : parent.0 ≡ b = one_block parent.0 b parent.2.0 stands.0 in
        let among : Contains b.parents parent.1 = subst (λ (y : Block). Contains y.parents parent.1) here parent.3 in
        let complete : IsComplete s parent.1.digest = (All-contains (λ r. IsSatisfied s b.round r × IsComplete s r.digest) b.parents parent.1 parents among).1 in
        (subst (λ q. IsComplete s q) parent.5 complete).whole a x (path, on) stands_a above

-- ---- parents among blocks

pub no_parent : (blocks : FinMap digest_cmp Block) (round : ℕ) (r : Ref) → get blocks r.digest ≡ None → HasParent blocks round r → ⊥
no_parent blocks round r none (p, at, author, before) = none-some p (sym none ∙ at)

pub one_parent : (blocks : FinMap digest_cmp Block) (round : ℕ) (r : Ref) (p : Block) → get blocks r.digest ≡ Some p → HasParent blocks round r ↔ ((p.author ≡ r.author) × (p.round + 1 ≡ round))
one_parent blocks round r p at = (
  λ (q, there, author, before).
      let same : q ≡ p = one_block q p there at in
      (subst (λ (y : Block). y.author ≡ r.author) same author, subst (λ (y : Block). y.round + 1 ≡ round) same before),
  λ fits. (p, at, fits.0, fits.1),
)

-- the tests that find a parent
equal_numbers : (a b : ℕ) → IsTrue (nat_eq a b) → a ≡ b
equal_numbers a b e = grind arith

numbers_equal : (a b : ℕ) → a ≡ b → IsTrue (nat_eq a b)
numbers_equal a b e = grind arith

pub round_decides : (blocks : FinMap digest_cmp Block) (round : ℕ) (r : Ref) (p : Block) (a b : ℕ) → get blocks r.digest ≡ Some p → p.author ≡ r.author → a ≡ p.round → b ≡ round
    → IsTrue (nat_eq (a + 1) b) ↔ HasParent blocks round r
round_decides blocks round r p a b at author one other = (
  λ t. (one_parent blocks round r p at).1 (author, let e = equal_numbers (a + 1) b t in omega (arith, e, one, other)),
  λ has. numbers_equal (a + 1) b (let e = ((one_parent blocks round r p at).0 has).1 in omega (arith, e, one, other)),
)

pub other_author : (blocks : FinMap digest_cmp Block) (round : ℕ) (r : Ref) (p : Block) → get blocks r.digest ≡ Some p → (p.author ≡ r.author → ⊥) → IsTrue (nat_eq p.author r.author) ↔ HasParent blocks round r
other_author blocks round r p at apart = (
  λ t. absurd (apart (equal_numbers p.author r.author t)),
  λ has. absurd (apart ((one_parent blocks round r p at).0 has).0),
)

-- ---- one more digest is tested

low : (a b : ℕ) → is_le (nat_cmp a b) ≡ true → a ≤ b
low a b e = grind arith

high : (a b : ℕ) → is_le (nat_cmp a b) ≡ false → b < a
high a b e = grind arith

-- either the block's round passes, or its parents do
pub completed_low : (floor : ℕ) (old : FinMap digest_cmp Block) (b : Block) → is_le (nat_cmp b.round floor) ≡ true → (b.round ≤ floor) ⊎ All (HasParent old b.round) b.parents
completed_low floor old b e = inl (low b.round floor e)

pub not_completed : (floor : ℕ) (old : FinMap digest_cmp Block) (b : Block) → is_le (nat_cmp b.round floor) ≡ false → (All (HasParent old b.round) b.parents → ⊥) → (b.round ≤ floor) ⊎ All (HasParent old b.round) b.parents → ⊥
not_completed floor old b e lacks (inl at_floor) = let above = high b.round floor e in omega (arith, above, at_floor)
not_completed floor old b e lacks (inr parents) = lacks parents

-- ---- the view of the complete blocks

-- the complete blocks are closed: the parents of each above the garbage round are among them, and no two share a slot
pub closed : (s : State) (v : Frozen) → IsSound s → v.floor ≡ s.floor → AreComplete s v.blocks → IsClosed v
closed s v sound floor are = record {
  parents = λ d b at above.
      let held = (are d b).0 at in
      let stands : IsStanding s d b = (held.0, certified d held.1) in
      λ k r lt.
      let of_parent = parents_complete s d b held.1 stands (omega (arith, floor)) k r lt in
      let parent = of_parent.0 in
      (parent.0, (are (get_or b.parents k r).digest parent.0).1 (parent.1.0, of_parent.1), parent.2, parent.3);
  apart = λ d e b c at_d at_e above same.
      let one = (are d b).0 at_d in
      let other = (are e c).0 at_e in
      let for_d = which _ (certified d one.1) in
      let for_e = which _ (certified e other.1) in
      sound.one_certificate d e for_d.0 for_e.0 for_d.1 for_e.1 (sym (sound.one_slot d b for_d.0 one.0 for_d.1) ∙ same ∙ sound.one_slot e c for_e.0 other.0 for_e.1);
}
  where
    certified : (d : Digest) → IsComplete s d → IsSome (get s.certificates d)
    certified d whole = whole.stands.1.1

-- the complete blocks show the state
pub shown : (s : State) (v : Frozen) → v.floor ≡ s.floor → AreComplete s v.blocks → Shows v s
shown s v floor are = record {
  floor = floor;
  complete = λ d b. (
    λ there. let held = (are d b).0 there.0 in (held.0, omega (arith, floor, there.1), held.1),
    λ held. ((are d b).1 (held.0, held.2), omega (arith, floor, held.1)),
  );
}

-- a digest that the complete blocks have is complete
pub complete_there : (s : State) (blocks : FinMap digest_cmp Block) (d : Digest) → AreComplete s blocks → is_some (get blocks d) ≡ true → IsComplete s d
complete_there s blocks d are there = by (get blocks d) refl there
  where
    by : (found : Option Block) → get blocks d ≡ found → is_some found ≡ true → IsComplete s d
    by (Some b) at e = ((are d b).0 at).1
    by None at e = absurd cc

-- a digest that the complete blocks do not have is not complete
pub complete_not_there : (s : State) (blocks : FinMap digest_cmp Block) (d : Digest) → AreComplete s blocks → is_some (get blocks d) ≡ false → IsComplete s d → ⊥
complete_not_there s blocks d are lacks whole =
    let there : get blocks d ≡ Some whole.stands.0 = (are d whole.stands.0).1 (whole.stands.1.0, whole) in
    wrong (get blocks d) whole.stands.0 there lacks
  where
    wrong : (found : Option Block) (b : Block) → found ≡ Some b → is_some found ≡ false → ⊥
    wrong found b at e = cc
