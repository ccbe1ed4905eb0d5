-- The authors in a causal list reach the quorum in each round.
use Rattle.nw_model.proofs.Words.{◌≡◌, ℕ, zero, suc, ◌+◌, ◌-◌, ◌<◌, ◌≤◌, Bool, true, false, cond, List, [], ◌∷◌, Some, map, refl, sym, ◌∙◌, subst, arith, inl, inr, Contains, filter, ◌==◌, ◌||◌, get, All-contains, Digest, contains_first, contains_later, contains_cases, contains_none, contains_filter, Ref, Block, Member, Meaning}
use Rattle.std.specs.List.{sum_by, enumerate_from}
use Rattle.std.proofs.lemmas.List.Sums.{sum_by-cons}
use Rattle.nw_codec.specs.Fits.{authors}
use Rattle.nw_committee.specs.Committee.{ReachesQuorum, is_listed, listed_weight}
use Rattle.nw_committee.proofs.Listed.{weight_where, listed_weight-none}
use Rattle.nw_model.specs.State.{State}
use Rattle.nw_model.specs.Paths.{IsStanding, IsSatisfied, IsAncestor, IsComplete, IsCausalList}
use Rattle.nw_model.specs.Laws.{authors_in, CausalListsReachQuorums}
use Rattle.nw_model.proofs.Admitted.{AreAdmitted, admitted_left}
use Rattle.nw_model.proofs.Complete.{one_block}
use Rattle.nw_model.proofs.Contained.{ancestor_joined}
use Rattle.nw_model.proofs.Listed.{block_of}

-- ---- weights

-- the weight of a member with its number
abbrev weigh : ℕ × Member → ℕ
weigh q = q.1.weight

-- the members that pass a stricter test do not weigh more
more_weigh : (t u : ℕ → Bool) → ((n : ℕ) → t n ≡ true → u n ≡ true) → (ps : List (ℕ × Member)) → weight_where t ps ≤ weight_where u ps
more_weigh t u implies [] = omega arith
more_weigh t u implies (p ∷ ps) = by (t p.0) refl (u p.0) refl (more_weigh t u implies ps)
  where
    by : (a : Bool) → t p.0 ≡ a → (b : Bool) → u p.0 ≡ b → weight_where t ps ≤ weight_where u ps
        → sum_by weigh (cond a (p ∷ filter (λ q. t q.0) ps) (filter (λ q. t q.0) ps)) ≤ sum_by weigh (cond b (p ∷ filter (λ q. u q.0) ps) (filter (λ q. u q.0) ps))
    by true is true was rest = omega (arith, rest, sum_by-cons weigh p (filter (λ q. t q.0) ps), sum_by-cons weigh p (filter (λ q. u q.0) ps))
    by false is true was rest = omega (arith, rest, sum_by-cons weigh p (filter (λ q. u q.0) ps))
    by false is false was rest = rest
    by true is false was rest = let wrong : u p.0 ≡ true = implies p.0 is in absurd cc

-- a list reaches the quorum if it contains a list that does
reaches_more : (members : List Member) (one other : List ℕ) → ((n : ℕ) → is_listed one n ≡ true → is_listed other n ≡ true) → ReachesQuorum members one → ReachesQuorum members other
reaches_more members one other implies reaches =
    let more : listed_weight members one ≤ listed_weight members other = more_weigh (is_listed one) (is_listed other) implies (enumerate_from 0 members) in
    omega (arith, more, reaches)

-- ---- listed numbers

-- each listed author is the author of a reference
named_author : (refs : List Ref) (n : ℕ) → is_listed (authors refs) n ≡ true → (r : Ref) × Contains refs r × (r.author ≡ n)
named_author [] n e = absurd cc
named_author (r ∷ refs) n e = by (r.author == n) refl e (named_author refs n)
  where
    by : (b : Bool) → (r.author == n) ≡ b → (b || is_listed (authors refs) n) ≡ true → (is_listed (authors refs) n ≡ true → (q : Ref) × Contains refs q × (q.author ≡ n)) → (q : Ref) × Contains (r ∷ refs) q × (q.author ≡ n)
    by true is any rest = (r, contains_first r refs, grind arith)
    by false is any rest = let later = rest any in (later.0, contains_later r refs later.0 later.1, later.2)

-- a number that a list contains is listed
listed_there : (xs : List ℕ) (n : ℕ) → Contains xs n → is_listed xs n ≡ true
listed_there [] n among = absurd (contains_none n among)
listed_there (x ∷ xs) n among = elim (contains_cases x xs n among) [
  | inl same ↦ let here : (x == n) ≡ true = grind arith in first (x == n) here
  | inr later ↦ second (x == n) (is_listed xs n) (listed_there xs n later)
]
  where
    first : (b : Bool) → b ≡ true → (b || is_listed xs n) ≡ true
    first true e = refl
    first false e = absurd cc

    second : (b c : Bool) → c ≡ true → (b || c) ≡ true
    second true c e = refl
    second false c e = e

contains_map : {X Y : Type 0} (f : X → Y) (xs : List X) (x : X) → Contains xs x → Contains (map f xs) (f x)
contains_map f [] x among = absurd (contains_none x among)
contains_map f (y ∷ xs) x among = elim (contains_cases y xs x among) [
  | inl same ↦ subst (λ z. Contains (map f (y ∷ xs)) (f z)) same (contains_first (f y) (map f xs))
  | inr later ↦ contains_later (f y) (map f xs) (f x) (contains_map f xs x later)
]

-- the author of a block of the round is listed
author_listed : (round : ℕ) (blocks : List Block) (p : Block) → Contains blocks p → p.round ≡ round → is_listed (authors_in round blocks) p.author ≡ true
author_listed round blocks p among at =
    let passes : (p.round == round) ≡ true = grind arith in
    listed_there (authors_in round blocks) p.author
    (contains_map (λ (x : Block). x.author) (filter (λ x. x.round == round) blocks) p ((contains_filter (λ (x : Block). x.round == round) blocks p).1 (among, passes)))

-- ---- from a block down

module _ (accepts : Meaning) (members : List Member) (s : State) (admitted : AreAdmitted accepts members s) where
  -- the parents of a held block after round 0 reach the quorum
  parents_reach : (d : Digest) (b : Block) → get s.blocks d ≡ Some b → 0 < b.round → ReachesQuorum members (authors b.parents)
  parents_reach d b at above = (admitted.blocks d b at).1.1.parents above

  -- a block whose parents reach the quorum has a parent
  some_parent : (b : Block) → ReachesQuorum members (authors b.parents) → (r : Ref) × Contains b.parents r
  some_parent b reaches = by b.parents refl
    where
      by : (refs : List Ref) → b.parents ≡ refs → (r : Ref) × Contains refs r
      by [] is =
          let none : ReachesQuorum members [] = subst (λ refs. ReachesQuorum members (authors refs)) is reaches in
          absurd (omega (arith, none, listed_weight-none members))
      by (r ∷ refs) is = (r, contains_first r refs)

  -- the parent that a satisfied reference names
  one_step : (d : Digest) (b : Block) (r : Ref) → IsStanding s d b → Contains b.parents r → IsSatisfied s b.round r → IsAncestor s d r.digest
  one_step d b r stands among satisfied = (r.digest ∷ [], ((b, r, stands, among, satisfied, refl), ((satisfied.0, satisfied.1), refl)))

  -- a complete block has an ancestor in each round from the garbage round to its own
  one_in_round : (n round : ℕ) (d : Digest) (b : Block) → IsComplete s d → IsStanding s d b → round + n ≡ b.round → s.floor ≤ round
      → (e : Digest) × (x : Block) × IsAncestor s d e × IsStanding s e x × (x.round ≡ round)
  one_in_round zero round d b whole stands at high = (d, b, ([], ((b, stands), refl)), stands, omega arith)
  one_in_round (suc n) round d b whole stands at high =
      let upper = one_in_round n (round + 1) d b whole stands (omega arith) (omega arith) in
      let x : Block = upper.1 in
      let is : x.round ≡ round + 1 = upper.4 in
      let r = some_parent x (parents_reach upper.0 x upper.3.0 (omega arith)) in
      let satisfied : IsSatisfied s x.round r.0 = All-contains (IsSatisfied s x.round) x.parents r.0 (whole.whole upper.0 x upper.2 upper.3 (omega arith)) r.1 in
      let before : satisfied.0.round + 1 ≡ x.round = satisfied.3 in
      (r.0.digest, satisfied.0, ancestor_joined s d upper.0 r.0.digest upper.2 (one_step upper.0 x r.0 upper.3 r.1 satisfied), satisfied.1, omega arith)

  -- the authors of an ancestor's parents are listed in the preceding round
  parents_listed : (d e : Digest) (x : Block) (blocks : List Block) (round : ℕ) → IsComplete s d → IsCausalList s d blocks → IsAncestor s d e → IsStanding s e x → x.round ≡ round + 1 → s.floor ≤ round
      → (n : ℕ) → is_listed (authors x.parents) n ≡ true → is_listed (authors_in round blocks) n ≡ true
  parents_listed d e x blocks round whole listed ancestor stands is high n named =
      let r = named_author x.parents n named in
      let satisfied : IsSatisfied s x.round r.0 = All-contains (IsSatisfied s x.round) x.parents r.0 (whole.whole e x ancestor stands (omega arith)) r.1 in
      let p : Block = satisfied.0 in
      let before : p.round + 1 ≡ x.round = satisfied.3 in
      let among = (listed.exactly r.0.digest).1 (ancestor_joined s d e r.0.digest ancestor (one_step e x r.0 stands r.1 satisfied)) in
      let there = block_of s.blocks listed.digests blocks r.0.digest listed.found among in
      let same : there.0 ≡ p = one_block there.0 p there.2 satisfied.1.0 in
      let in_list : Contains blocks p = subst (Contains blocks) same there.1 in
      let author : p.author ≡ n = satisfied.2 ∙ r.2 in
      subst (λ a. is_listed (authors_in round blocks) a ≡ true) author (author_listed round blocks p in_list (omega arith))

  round_reaches : (d : Digest) (b : Block) (blocks : List Block) (round : ℕ) → IsComplete s d → IsCausalList s d blocks → IsStanding s d b → s.floor ≤ round → round < b.round
      → ReachesQuorum members (authors_in round blocks)
  round_reaches d b blocks round whole listed stands high low =
      let upper = one_in_round (b.round - (round + 1)) (round + 1) d b whole stands (omega arith) (omega arith) in
      let is : upper.1.round ≡ round + 1 = upper.4 in
      reaches_more members (authors upper.1.parents) (authors_in round blocks)
      (parents_listed d upper.0 upper.1 blocks round whole listed upper.2 upper.3 is high)
      (parents_reach upper.0 upper.1 upper.3.0 (omega arith))

pub causal_lists_reach_quorums : CausalListsReachQuorums
causal_lists_reach_quorums accepts terms base es legal s is d b blocks whole listed at round high low =
    round_reaches accepts terms.committee s (subst (AreAdmitted accepts terms.committee) (sym is) (admitted_left accepts terms base es legal))
    d b blocks round whole listed (at, whole.stands.1.1) high low
