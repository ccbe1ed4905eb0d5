-- A causal list contains the causal list of each of its blocks.
use Rattle.nw_model.proofs.Words.{◌≡◌, ◌⊎◌, ℕ, zero, suc, ◌+◌, ◌≤◌, Bool, true, false, cond, List, [], ◌∷◌, ◌++◌, Option, Some, None, IsSome, map, refl, sym, subst, arith, inl, inr, Contains, filter, ◌==◌, AllByRecursion, eq_by_cmp_equiv, eq_by_cmp, Ordering, Less, FinMap, get, All-from_recursion, recursion_from_All, Digest, Ref, Block, digest_cmp, digests_total, same_digest, contains_first, contains_later, contains_cases, contains_none, contains_filter}
use Rattle.std.specs.List.Sorted.{IsStrictlySortedBy}
use Rattle.std.proofs.lemmas.List.Elements.{All-contains_itself}
use Rattle.nw_model.specs.State.{State}
use Rattle.nw_model.specs.Paths.{block_cmp, IsStanding, IsSatisfied, IsParent, IsPath, IsAncestor, IsComplete, IsCausalList}
use Rattle.nw_model.specs.Laws.{CausalListsContainThoseOfTheirBlocks}
use Rattle.nw_model.proofs.Complete.{one_block, parent_complete}

-- ---- paths

-- two paths in sequence are a path
joined : (s : State) (d : Digest) (path : List Digest) (e : Digest) (on : List Digest) (a : Digest) → IsPath s d path e → IsPath s e on a → IsPath s d (path ++ on) a
joined s d [] e on a first second = subst (λ q. IsPath s q on a) (sym first.1) second
joined s d (x ∷ path) e on a first second = (first.0, joined s x path e on a first.1 second)

-- the ancestors of an ancestor are ancestors
pub ancestor_joined : (s : State) (d e a : Digest) → IsAncestor s d e → IsAncestor s e a → IsAncestor s d a
ancestor_joined s d e a first second = (first.0 ++ second.0, joined s d first.0 e second.0 a first.1 second.1)

complete_along : (s : State) (d : Digest) (path : List Digest) (e : Digest) → IsComplete s d → IsPath s d path e → IsComplete s e
complete_along s d [] e whole on = subst (λ q. IsComplete s q) on.1 whole
complete_along s d (x ∷ path) e whole on = complete_along s x path e (parent_complete s d x whole on.0) on.1

-- the ancestors of a complete block are complete
pub ancestor_complete : (s : State) (d e : Digest) → IsComplete s d → IsAncestor s d e → IsComplete s e
ancestor_complete s d e whole ancestor = complete_along s d ancestor.0 e whole ancestor.1

-- ---- decisions

-- the statement P holds, or it does not
abbrev pub Decided : Type 0 → Type 0
Decided P = P ⊎ (P → ⊥)

decided_both : {P Q : Type 0} → Decided P → (P → Decided Q) → Decided (P × Q)
decided_both (inl p) second = elim (second p) [
  | inl q ↦ inl (p, q)
  | inr refuted ↦ inr (λ both. refuted both.1)
]
decided_both (inr refuted) second = inr (λ both. refuted both.0)

decided_any : {X : Type 0} (P : X → Type 0) → ((x : X) → Decided (P x)) → (xs : List X) → Decided ((x : X) × Contains xs x × P x)
decided_any P decide [] = inr (λ found. contains_none found.0 found.1)
decided_any P decide (x ∷ xs) = elim (decide x) [
  | inl here ↦ inl (x, contains_first x xs, here)
  | inr not_here ↦ elim (decided_any P decide xs) [
    | inl later ↦ inl (later.0, contains_later x xs later.0 later.1, later.2)
    | inr not_later ↦ inr (λ found.
        elim (contains_cases x xs found.0 found.1) [
          | inl same ↦ not_here (subst P (sym same) found.2)
          | inr among ↦ not_later (found.0, among, found.2)
        ])
  ]
]

decided_number : (m n : ℕ) → Decided (m ≡ n)
decided_number m n = by (m == n) refl
  where
    by : (b : Bool) → (m == n) ≡ b → Decided (m ≡ n)
    by true is = inl (grind arith)
    by false is = inr (λ e. grind arith)

decided_digest : (d e : Digest) → Decided (d ≡ e)
decided_digest d e = by (eq_by_cmp digest_cmp d e) refl
  where
    by : (b : Bool) → eq_by_cmp digest_cmp d e ≡ b → Decided (d ≡ e)
    by true is = inl (same_digest d e is)
    by false is = inr (λ same. let tied : eq_by_cmp digest_cmp d e ≡ true = subst (λ q. eq_by_cmp digest_cmp d q ≡ true) same ((eq_by_cmp_equiv digests_total).refl d) in absurd cc)

decided_some : {X : Type 0} (found : Option X) → Decided ((x : X) × (found ≡ Some x))
decided_some (Some x) = inl (x, refl)
decided_some None = inr (λ found. let is = found.1 in absurd cc)

decided_certified : {X : Type 0} (found : Option X) → Decided (IsSome found)
decided_certified (Some x) = inl refl
decided_certified None = inr (λ e. absurd cc)

-- whether a block stands under the digest
decided_standing : (s : State) (d : Digest) → Decided ((b : Block) × IsStanding s d b)
decided_standing s d = elim (decided_some (get s.blocks d)) [
  | inl held ↦ elim (decided_certified (get s.certificates d)) [
    | inl certified ↦ inl (held.0, (held.1, certified))
    | inr refuted ↦ inr (λ stands. refuted stands.1.1)
  ]
  | inr refuted ↦ inr (λ stands. refuted (stands.0, stands.1.0))
]

-- whether the reference is satisfied
pub decided_satisfied : (s : State) (round : ℕ) (r : Ref) → Decided (IsSatisfied s round r)
decided_satisfied s round r = elim (decided_standing s r.digest) [
  | inl stands ↦ elim (decided_number stands.0.author r.author) [
    | inl author ↦ elim (decided_number (stands.0.round + 1) round) [
      | inl before ↦ inl (stands.0, stands.1, author, before)
      | inr refuted ↦ inr (λ satisfied. refuted (subst (λ (p : Block). p.round + 1 ≡ round) (one_block satisfied.0 stands.0 satisfied.1.0 stands.1.0) satisfied.3))
    ]
    | inr refuted ↦ inr (λ satisfied. refuted (subst (λ (p : Block). p.author ≡ r.author) (one_block satisfied.0 stands.0 satisfied.1.0 stands.1.0) satisfied.2))
  ]
  | inr refuted ↦ inr (λ satisfied. refuted (satisfied.0, satisfied.1))
]

-- ---- whether there is a path

-- a is an ancestor of a parent that the block names
abbrev pub IsBelow : State → Block → Digest → Type 0
IsBelow s b a = (r : Ref) × Contains b.parents r × (IsSatisfied s b.round r × IsAncestor s r.digest a)

first_stands : (s : State) (d : Digest) (path : List Digest) (a : Digest) → IsPath s d path a → (b : Block) × IsStanding s d b
first_stands s d [] a on = on.0
first_stands s d (e ∷ path) a on = (on.0.0, on.0.2)

here_or_below : (s : State) (d : Digest) (b : Block) (path : List Digest) (a : Digest) → IsStanding s d b → IsPath s d path a → (d ≡ a) ⊎ IsBelow s b a
here_or_below s d b [] a stands on = inl on.1
here_or_below s d b (e ∷ path) a stands on =
    let parent : IsParent s d e = on.0 in
    let same : parent.0 ≡ b = one_block parent.0 b parent.2.0 stands.0 in
    let among : Contains b.parents parent.1 = subst (λ (y : Block). Contains y.parents parent.1) same parent.3 in
    let satisfied : IsSatisfied s b.round parent.1 = subst (λ (y : Block). IsSatisfied s y.round parent.1) same parent.4 in
    inr (parent.1, among, (satisfied, (path, subst (λ q. IsPath s q path a) (sym parent.5) on.1)))

-- whether a is an ancestor, if it is known whether it is an ancestor of a parent
from_parents : (s : State) (d a : Digest) (b : Block) → IsStanding s d b → Decided (IsBelow s b a) → Decided (IsAncestor s d a)
from_parents s d a b stands (inl below) = inl (below.0.digest ∷ below.2.1.0, ((b, below.0, stands, below.1, below.2.0, refl), below.2.1.1))
from_parents s d a b stands (inr refuted) = elim (decided_digest d a) [
  | inl same ↦ inl ([], ((b, stands), same))
  | inr apart ↦ inr (λ ancestor.
      elim (here_or_below s d b ancestor.0 a stands ancestor.1) [
        | inl here ↦ apart here
        | inr below ↦ refuted below
      ])
]

nothing_stands : (s : State) (d a : Digest) → (((b : Block) × IsStanding s d b) → ⊥) → IsAncestor s d a → ⊥
nothing_stands s d a refuted ancestor = refuted (first_stands s d ancestor.0 a ancestor.1)

-- a path from a block of at most this round can be found, because each step goes down one round
decided_ancestor : (n : ℕ) (s : State) (d a : Digest) → ((b : Block) → IsStanding s d b → b.round ≤ n) → Decided (IsAncestor s d a)
decided_ancestor zero s d a low = elim (decided_standing s d) [
  | inl stands ↦ from_parents s d a stands.0 stands.1 (inr (λ below.
      let first : stands.0.round ≤ 0 = low stands.0 stands.1 in
      let before : below.2.0.0.round + 1 ≡ stands.0.round = below.2.0.3 in
      absurd (omega arith)))
  | inr refuted ↦ inr (nothing_stands s d a refuted)
]
decided_ancestor (suc n) s d a low = elim (decided_standing s d) [
  | inl stands ↦ from_parents s d a stands.0 stands.1 (decided_any (λ r. IsSatisfied s stands.0.round r × IsAncestor s r.digest a) (λ r.
      decided_both (decided_satisfied s stands.0.round r) (λ satisfied.
      decided_ancestor n s r.digest a (λ p stands_p.
      let first : stands.0.round ≤ suc n = low stands.0 stands.1 in
      let before : satisfied.0.round + 1 ≡ stands.0.round = satisfied.3 in
      let parent : satisfied.0.round ≤ n = omega arith in
      subst (λ (q : Block). q.round ≤ n) (one_block satisfied.0 p satisfied.1.0 stands_p.0) parent))) stands.0.parents)
  | inr refuted ↦ inr (nothing_stands s d a refuted)
]

-- whether a is an ancestor
pub is_ancestor_decided : (s : State) (d a : Digest) → Decided (IsAncestor s d a)
is_ancestor_decided s d a = elim (decided_standing s d) [
  | inl stands ↦ decided_ancestor stands.0.round s d a (λ b other. let same : stands.0 ≡ b = one_block stands.0 b stands.1.0 other.0 in subst (λ (q : Block). q.round ≤ stands.0.round) same (omega arith))
  | inr refuted ↦ inr (nothing_stands s d a refuted)
]

-- the decision of P, as a test
abbrev pub holds : {P : Type 0} → Decided P → Bool
holds (inl p) = true
holds (inr refuted) = false

-- ---- the part of a list under the digests that pass a test

-- the blocks whose digests pass
abbrev pub passing : (Digest → Bool) → List Digest → List Block → List Block
passing test [] blocks = []
passing test (d ∷ digests) [] = []
passing test (d ∷ digests) (b ∷ blocks) = cond (test d) (b ∷ passing test digests blocks) (passing test digests blocks)

-- if P holds of each block, it holds of each block that passes
passing_each : (P : Block → Type 0) (test : Digest → Bool) (digests : List Digest) (blocks : List Block) → AllByRecursion P blocks → AllByRecursion P (passing test digests blocks)
passing_each P test [] blocks all = tt
passing_each P test (d ∷ digests) [] all = tt
passing_each P test (d ∷ digests) (b ∷ blocks) all = by (test d) refl (passing_each P test digests blocks all.1)
  where
    by : (t : Bool) → test d ≡ t → AllByRecursion P (passing test digests blocks) → AllByRecursion P (cond t (b ∷ passing test digests blocks) (passing test digests blocks))
    by true is rest = (all.0, rest)
    by false is rest = rest

-- if all blocks are in order, so are those that pass
passing_sorted : (R : Block → Block → Ordering) (test : Digest → Bool) (digests : List Digest) (blocks : List Block) → IsStrictlySortedBy R blocks → IsStrictlySortedBy R (passing test digests blocks)
unfolding IsStrictlySortedBy
passing_sorted R test [] blocks sorted = tt
passing_sorted R test (d ∷ digests) [] sorted = tt
passing_sorted R test (d ∷ digests) (b ∷ blocks) sorted = by (test d) refl (passing_sorted R test digests blocks sorted.1)
  where
    by : (t : Bool) → test d ≡ t → IsStrictlySortedBy R (passing test digests blocks) → IsStrictlySortedBy R (cond t (b ∷ passing test digests blocks) (passing test digests blocks))
    by true is rest = (passing_each (λ y. R b y ≡ Less) test digests blocks sorted.0, rest)
    by false is rest = rest

-- the blocks that pass are held under the digests that pass
passing_found : (held : FinMap digest_cmp Block) (test : Digest → Bool) (digests : List Digest) (blocks : List Block) → map (get held) digests ≡ map Some blocks
    → map (get held) (filter test digests) ≡ map Some (passing test digests blocks)
passing_found held test [] blocks found = refl
passing_found held test (d ∷ digests) [] found = absurd cc
passing_found held test (d ∷ digests) (b ∷ blocks) found =
    let rest : map (get held) digests ≡ map Some blocks = cc in
    let first : get held d ≡ Some b = cc in
    by first (test d) (passing_found held test digests blocks rest)
  where
    by : get held d ≡ Some b → (t : Bool) → map (get held) (filter test digests) ≡ map Some (passing test digests blocks)
        → map (get held) (cond t (d ∷ filter test digests) (filter test digests)) ≡ map Some (cond t (b ∷ passing test digests blocks) (passing test digests blocks))
    by first true rest = cc
    by first false rest = rest

pub holds_so : {P : Type 0} (decided : Decided P) → holds decided ≡ true → P
holds_so (inl p) e = p
holds_so (inr refuted) e = absurd cc

pub so_holds : {P : Type 0} (decided : Decided P) → P → holds decided ≡ true
so_holds (inl p) q = refl
so_holds (inr refuted) q = absurd (refuted q)

-- ---- containment

-- the causal list of an ancestor: the blocks of the list whose digests are its ancestors
pub causal_list_within : (s : State) (d e : Digest) (blocks : List Block) → IsAncestor s d e → (listed : IsCausalList s d blocks)
    → IsCausalList s e (passing (λ a. holds (is_ancestor_decided s e a)) listed.digests blocks)
causal_list_within s d e blocks ancestor listed =
    let test : Digest → Bool = λ a. holds (is_ancestor_decided s e a) in
    record {
      digests = filter test listed.digests;
      found = passing_found s.blocks test listed.digests blocks listed.found;
      exactly = λ a. (
        λ among. holds_so (is_ancestor_decided s e a) ((contains_filter test listed.digests a).0 among).1,
        λ below. (contains_filter test listed.digests a).1 ((listed.exactly a).1 (ancestor_joined s d e a ancestor below), so_holds (is_ancestor_decided s e a) below),
      );
      ascending = passing_sorted block_cmp test listed.digests blocks listed.ascending;
    }

pub causal_lists_contained : CausalListsContainThoseOfTheirBlocks
causal_lists_contained s d blocks whole listed e among =
    let ancestor : IsAncestor s d e = (listed.exactly e).0 among in
    let test : Digest → Bool = λ a. holds (is_ancestor_decided s e a) in (
      ancestor_complete s d e whole ancestor,
      passing test listed.digests blocks,
      causal_list_within s d e blocks ancestor listed,
      All-from_recursion (Contains blocks) (passing test listed.digests blocks)
          (passing_each (Contains blocks) test listed.digests blocks (recursion_from_All (Contains blocks) blocks (All-contains_itself blocks))),
    )
