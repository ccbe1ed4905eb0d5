-- A causal list stays, except for the rounds below a later garbage round.
use Rattle.nw_model.proofs.Words.{◌≡◌, ℕ, ◌+◌, ◌<◌, ◌≤◌, Bool, true, false, cond, List, [], ◌∷◌, Some, get_or, map, refl, ap, sym, ◌∙◌, subst, arith, Contains, filter, nat_le, option_map_or, get, All-contains, Digest, which, is_there, contains_filter, Ref, Block}
use Rattle.std.proofs.lemmas.List.Kept.{IsStrictlySortedBy-filter}
use Rattle.nw_model.specs.State.{State, block_slot, certificate_slot}
use Rattle.nw_model.specs.Paths.{block_cmp, IsStanding, IsSatisfied, IsParent, IsPath, IsAncestor, IsComplete, IsCausalList}
use Rattle.nw_model.specs.Sound.{IsSound}
use Rattle.nw_model.specs.Laws.{CausalListsStay}
use Rattle.nw_model.proofs.Complete.{one_block, parent_complete}
use Rattle.nw_model.proofs.Carried.{Carries, carries_replay}
use Rattle.nw_model.proofs.Replayed.{sound_base, sound_replay}

-- ---- from s on to t

module _ (s t : State) (sound : IsSound s) (carries : Carries s t) where
  -- a digest that stands in s stands in t, if its block is not below the garbage round of t
  still_standing : (d : Digest) (b : Block) → IsStanding s d b → t.floor ≤ b.round → IsStanding t d b
  still_standing d b stands high =
      let c = which (get s.certificates d) stands.1 in
      let slots : block_slot b ≡ certificate_slot c.0 = sound.one_slot d b c.0 stands.0 c.1 in
      let round : b.round ≡ c.0.round = ap (λ (q : ℕ × ℕ). q.0) slots in
      (carries.blocks d b stands.0 high, is_there (get t.certificates d) c.0 (carries.certificates d c.0 c.1 (omega arith)))

  -- a satisfied reference of a block above the garbage round of t is satisfied in t
  still_satisfied : (round : ℕ) (r : Ref) → t.floor < round → IsSatisfied s round r → IsSatisfied t round r
  still_satisfied round r above (p, stands, author, before) = (p, still_standing r.digest p stands (omega arith), author, before)

  -- a path in s is a path in t if its last block is not below the garbage round of t. Then none of its blocks is
  still_path : (d : Digest) (path : List Digest) (a : Digest) (x : Block) → IsPath s d path a → IsStanding s a x → t.floor ≤ x.round
      → IsPath t d path a × (b : Block) × IsStanding s d b × (t.floor ≤ b.round)
  still_path d [] a x on stands high =
      let here : IsStanding s d x = subst (λ q. IsStanding s q x) (sym on.1) stands in
      (((x, still_standing d x here high), on.1), x, here, high)
  still_path d (e ∷ path) a x (parent, on) stands high =
      let below = still_path e path a x on stands high in
      let b = parent.0 in
      let r = parent.1 in
      let p = parent.4.0 in
      let held : get s.blocks e ≡ Some p = subst (λ q. get s.blocks q ≡ Some p) parent.5 parent.4.1.0 in
      let same : below.1 ≡ p = one_block below.1 p below.2.0 held in
      let floor : t.floor ≤ p.round = subst (λ (q : Block). t.floor ≤ q.round) same below.3 in
      let before : p.round + 1 ≡ b.round = parent.4.3 in
      let above : t.floor < b.round = omega arith in
      let above_too : t.floor ≤ b.round = omega arith in
      (((b, r, still_standing d b parent.2 above_too, parent.3, still_satisfied b.round r above parent.4, parent.5), below.0), b, parent.2, above_too)

  -- ---- from t back to s

  -- a parent in t of a complete block is its parent in s, and is not below the garbage round of t
  was_parent : (d e : Digest) (b : Block) → IsSound t → IsComplete s d → IsStanding s d b → t.floor ≤ b.round → IsParent t d e
      → IsParent s d e × (p : Block) × IsStanding s e p × (t.floor ≤ p.round)
  was_parent d e b sound_t whole stands high parent =
      let r = parent.1 in
      let same : parent.0 ≡ b = one_block parent.0 b parent.2.0 (carries.blocks d b stands.0 high) in
      let among : Contains b.parents r = subst (λ (q : Block). Contains q.parents r) same parent.3 in
      let satisfied_t : IsSatisfied t b.round r = subst (λ (q : Block). IsSatisfied t q.round r) same parent.4 in
      let lowest : t.floor ≤ satisfied_t.0.round = sound_t.blocks_kept r.digest satisfied_t.0 satisfied_t.1.0 in
      let before_t : satisfied_t.0.round + 1 ≡ b.round = satisfied_t.3 in
      let floor : s.floor ≤ t.floor = carries.floor in
      let above : s.floor < b.round = omega arith in
      let satisfied : IsSatisfied s b.round r = All-contains (IsSatisfied s b.round) b.parents r (whole.whole d b ([], ((b, stands), refl)) stands above) among in
      let before : satisfied.0.round + 1 ≡ b.round = satisfied.3 in
      ((b, r, stands, among, satisfied, parent.5), satisfied.0, subst (λ q. IsStanding s q satisfied.0) parent.5 satisfied.1, omega arith)

  was_path : (d : Digest) (path : List Digest) (a : Digest) (b : Block) → IsSound t → IsComplete s d → IsStanding s d b → t.floor ≤ b.round → IsPath t d path a
      → IsPath s d path a × (x : Block) × IsStanding s a x × (t.floor ≤ x.round)
  was_path d [] a b sound_t whole stands high on = (((b, stands), on.1), b, subst (λ q. IsStanding s q b) on.1 stands, high)
  was_path d (e ∷ path) a b sound_t whole stands high (parent, on) =
      let first = was_parent d e b sound_t whole stands high parent in
      let rest = was_path e path a first.1 sound_t (parent_complete s d e whole first.0) first.2 first.3 on in
      ((first.0, rest.0), rest.1, rest.2, rest.3)

  -- ---- complete in t

  still_complete : (d : Digest) (b : Block) → IsSound t → IsComplete s d → IsStanding s d b → t.floor ≤ b.round → IsComplete t d
  still_complete d b sound_t whole stands high = record {
    stands = (b, still_standing d b stands high);
    whole = λ a x ancestor stands_a above.
        let was = was_path d ancestor.0 a b sound_t whole stands high ancestor.1 in
        let same : was.1 ≡ x = one_block was.1 x (still_standing a was.1 was.2 was.3).0 stands_a.0 in
        let stood : IsStanding s a x = subst (λ (q : Block). IsStanding s a q) same was.2 in
        let floor : s.floor ≤ t.floor = carries.floor in
        let above_s : s.floor < x.round = omega arith in
        λ k r lt. still_satisfied x.round (get_or x.parents k r) above (whole.whole a x (ancestor.0, was.0) stood above_s k r lt);
  }

  -- ---- the list

  -- whether the block under the digest is not below the garbage round of t
  abbrev remains : Digest → Bool
  remains a = option_map_or (λ (x : Block). nat_le t.floor x.round) (get s.blocks a) false

  remains_then : (a : Digest) (x : Block) → get s.blocks a ≡ Some x → remains a ≡ true → t.floor ≤ x.round
  remains_then a x at e = let test : nat_le t.floor x.round ≡ true = subst (λ found. option_map_or (λ (y : Block). nat_le t.floor y.round) found false ≡ true) at e in grind arith

  then_remains : (a : Digest) (x : Block) → get s.blocks a ≡ Some x → t.floor ≤ x.round → remains a ≡ true
  then_remains a x at high = ap (λ found. option_map_or (λ (y : Block). nat_le t.floor y.round) found false) at ∙ is_low t.floor x.round high
    where
      is_low : (m n : ℕ) → m ≤ n → nat_le m n ≡ true
      is_low m n h = grind arith

  remaining : (digests : List Digest) (blocks : List Block) → map (get s.blocks) digests ≡ map Some blocks → map (get t.blocks) (filter remains digests) ≡ map Some (filter (λ x. nat_le t.floor x.round) blocks)
  remaining [] [] found = refl
  remaining [] (x ∷ blocks) found = absurd cc
  remaining (a ∷ digests) [] found = absurd cc
  remaining (a ∷ digests) (x ∷ blocks) found =
      let rest : map (get s.blocks) digests ≡ map Some blocks = cc in
      let first : get s.blocks a ≡ Some x = cc in
      by first (remains a) refl (nat_le t.floor x.round) refl (remaining digests blocks rest)
    where
      by : get s.blocks a ≡ Some x → (one : Bool) → remains a ≡ one → (other : Bool) → nat_le t.floor x.round ≡ other
          → map (get t.blocks) (filter remains digests) ≡ map Some (filter (λ y. nat_le t.floor y.round) blocks)
          → map (get t.blocks) (cond one (a ∷ filter remains digests) (filter remains digests)) ≡ map Some (cond other (x ∷ filter (λ y. nat_le t.floor y.round) blocks) (filter (λ y. nat_le t.floor y.round) blocks))
      by first true is true was rest = let held : get t.blocks a ≡ Some x = carries.blocks a x first (remains_then a x first is) in cc
      by first false is false was rest = rest
      by first true is false was rest = let high : t.floor ≤ x.round = remains_then a x first is in absurd (grind arith)
      by first false is true was rest = let passes : remains a ≡ true = then_remains a x first (grind arith) in absurd cc

  list_stays : (d : Digest) (b : Block) (blocks : List Block) → IsSound t → IsComplete s d → IsStanding s d b → t.floor ≤ b.round → IsCausalList s d blocks → IsCausalList t d (filter (λ x. nat_le t.floor x.round) blocks)
  list_stays d b blocks sound_t whole stands high listed = record {
    digests = filter remains listed.digests;
    found = remaining listed.digests blocks listed.found;
    exactly = λ a. (
      λ among.
          let both = (contains_filter remains listed.digests a).0 among in
          let ancestor : IsAncestor s d a = (listed.exactly a).0 both.0 in
          let last = last_stands d ancestor.0 a ancestor.1 in
          (ancestor.0, (still_path d ancestor.0 a last.0 ancestor.1 last.1 (remains_then a last.0 last.1.0 both.1)).0),
      λ ancestor.
          let was = was_path d ancestor.0 a b sound_t whole stands high ancestor.1 in
          (contains_filter remains listed.digests a).1 ((listed.exactly a).1 (ancestor.0, was.0), then_remains a was.1 was.2.0 was.3),
    );
    ascending = IsStrictlySortedBy-filter block_cmp (λ x. nat_le t.floor x.round) blocks listed.ascending;
  }
    where
      last_stands : (d : Digest) (path : List Digest) (a : Digest) → IsPath s d path a → (x : Block) × IsStanding s a x
      last_stands d [] a on = (on.0.0, subst (λ q. IsStanding s q on.0.0) on.1 on.0.1)
      last_stands d (e ∷ path) a on = last_stands e path a on.1

pub causal_lists_stay : CausalListsStay
causal_lists_stay accepts terms s t leads d b blocks whole listed at high =
    let sound : IsSound s = subst IsSound (sym leads.earlier) (sound_replay terms.bounds leads.base leads.first (sound_base accepts terms leads.base leads.legal.based)) in
    let sound_t : IsSound t = subst IsSound (sym leads.later) (sound_replay terms.bounds s leads.more sound) in
    let carries : Carries s t = subst (λ (q : State). Carries s q) (sym leads.later) (carries_replay terms.bounds s leads.more) in
    let stands : IsStanding s d b = (at, whole.stands.1.1) in
    (still_complete s t sound carries d b sound_t whole stands high, list_stays s t sound carries d b blocks sound_t whole stands high listed)
