-- The tables of a store while it collects.
use Rattle.nw_dag.proofs.Words.{◌≡◌, ℕ, ◌+◌, ◌-◌, ◌<◌, ◌≤◌, Bool, true, false, cond, List, [], ◌++◌, length, drop, Option, Some, None, is_some, not, refl, ap, sym, ◌∙◌, subst, arith, inl, inr, length-append, Contains, eq_by_cmp, eq_by_cmp_equiv, FinMap, get, len, entries, keys, len-entries, contains_key-keys, cases_lt, true≢false, drop_at, length-map, All-contains, Contains-append_cases, Contains-append_left, Contains-append_right, list_any-from_Contains, Digest, Block, Pairs, digest_cmp, State, raised, IsSound, one_block, digests_total, contains_none, which, was_there, is_kept, AreDigestsUpTo}
use Rattle.std.proofs.Common.{filter}
use Rattle.std.specs.Prelude.{nat_le}
use Rattle.std.proofs.lemmas.Bool.{not-true}
use Rattle.std.proofs.lemmas.List.Elements.{All-filter, filter_passes}
use Rattle.std.proofs.lemmas.List.Filters.{length-filter_both}
use Rattle.nw_waiting.proofs.Members.{IsDistinct-filter}
use Rattle.nw_model.specs.Step.{collect_reply}
use Rattle.nw_model.specs.declared.reply.CollectReply.TheVariants as collect
use Rattle.nw_model.proofs.Existing.{held_among}
use Rattle.nw_digest.proofs.Elements.{contains_filter}
use Rattle.nw_dag.specs.Lacking.{IsReady}
use Rattle.nw_dag.specs.Changes.{AppendsThose}
use Rattle.nw_dag.specs.Frozen.{Grows}
use Rattle.nw_dag.specs.AtRest.{AreListed, HasPendingCount, IsComingToRest, IsCascading, IsAtRest}
use Rattle.nw_dag.specs.Collection.{AreReleased, StandsButLacks, IsCompleteBelow, HasCompleteBelow, IsCollecting}
use Rattle.nw_dag.proofs.Listed.{listed_fits, most_left}
use Rattle.nw_dag.proofs.Lists.{begins_more}
use Rattle.nw_dag.proofs.Once.{among_or_not, no_longer, once_both, once_keys}
use Rattle.nw_dag.proofs.Releasing.{released}
use Rattle.nw_dag.proofs.Raising.{held_stands, ready_cases, unmet_raised, lacking_raised}

-- ---- listed digests

-- the listed digests whose blocks are still held
abbrev pub kept : State → List Digest → List Digest
kept s complete = filter (λ d. is_some (get s.blocks d)) complete

held_is : (found : Option Block) (b : Block) → found ≡ Some b → is_some found ≡ true
held_is found b e = ap is_some e

module _ (s : State) (round : ℕ) (unmet lacking : Pairs) (complete holders : List Digest) (sound : IsSound s) (higher : s.floor < round) (are : AreDigestsUpTo s round holders) (at_rest : IsComingToRest s unmet lacking complete []) where
  abbrev t : State
  t = raised s round

  ready_kept : (x : Digest) → IsReady s lacking x → is_some (get t.blocks x) ≡ true → IsReady t lacking x
  ready_kept x ready held =
      let b = which (get t.blocks x) held in
      (held_stands s round sound higher holders are x b.0 b.1 ready.0, ready.1)

  -- a listed digest is still ready if its block is held
  pub kept_listed : AreListed t lacking (kept t complete)
  kept_listed = record {
    ready = λ k d lt. ready_kept _ (All-filter (λ d. is_some (get t.blocks d)) (IsReady s lacking) complete at_rest.listed.ready k d lt) (filter_passes (λ d. is_some (get t.blocks d)) complete k d lt);
    once = IsDistinct-filter (eq_by_cmp digest_cmp) (λ d. is_some (get t.blocks d)) complete at_rest.listed.once;
  }

  abbrev gone : List Digest
  gone = filter (λ d. not (is_some (get t.blocks d))) complete

  -- a listed digest is complete below the round if its block is no longer held
  gone_lost : (x : Digest) → Contains gone x → Contains holders x × IsCompleteBelow s lacking round x
  gone_lost x among =
      let was = (contains_filter (λ d. not (is_some (get t.blocks d))) complete x).0 among in
      let ready = All-contains (IsReady s lacking) complete x at_rest.listed.ready was.0 in
      let b = ready.0.0 in
      let low : b.round < round = elim (cases_lt b.round round) [
        | inl below ↦ below
        | inr high ↦ absurd (true≢false (sym (ap is_some (is_kept (λ (y : Block). y.round) round s.blocks x b ready.0.1.0 high)) ∙ not-true (is_some (get t.blocks x)) was.1))
      ] in
      (are.blocks x b ready.0.1.0 (omega (arith, low)), (ready, (b, ready.0.1.0, low)))

  lost_gone : (x : Digest) → IsCompleteBelow s lacking round x → Contains gone x
  lost_gone x (ready, (b, at, low)) = (contains_filter (λ d. not (is_some (get t.blocks d))) complete x).1 (at_rest.all x ready, none_held (get t.blocks x) refl)
    where
      none_held : (found : Option Block) → get t.blocks x ≡ found → not (is_some found) ≡ true
      none_held None is = refl
      none_held (Some c) is =
          let was = was_there (λ (y : Block). y.round) round s.blocks x c is in
          absurd (let same = one_block b c at was.0 in omega (arith, low, was.1, ap (λ (y : Block). y.round) same))

  -- the number of digests that are still listed
  pub kept_count : (lost : ℕ) → HasCompleteBelow s lacking round holders lost → length (kept t complete) + lost ≡ length complete
  kept_count lost (xs, adds, counts) =
      let both = length-filter_both (λ d. is_some (get t.blocks d)) (λ d. not (is_some (get t.blocks d))) (λ d. refl) complete in
      let once = IsDistinct-filter (eq_by_cmp digest_cmp) (λ d. not (is_some (get t.blocks d))) complete at_rest.listed.once in
      let few = no_longer gone adds.added once (λ x among. (adds.exactly x).1 (gone_lost x among)) in
      let many = no_longer adds.added gone adds.once (λ x among. lost_gone x ((adds.exactly x).0 among).1) in
      omega (arith, both, few, many, ap (λ (ys : List Digest). length ys) adds.are, counts)

  module _ (met new : Pairs) (fresh more : List Digest) (met_without : AreReleased holders unmet met) (without : AreReleased holders lacking new) (adds : AppendsThose (StandsButLacks t lacking) holders fresh more) where
    all_listed : (x : Digest) → IsReady t new x → Contains (kept t complete ++ adds.added) x
    all_listed x ready = elim (among_or_not adds.added x) [
      | inl added ↦ Contains-append_right (kept t complete) adds.added x added
      | inr apart ↦
          let was = ready_cases s round sound higher holders are lacking new without adds.added adds.exactly x ready apart in
          let here = (contains_filter (λ d. is_some (get t.blocks d)) complete x).1 (at_rest.all x was, held_is (get t.blocks x) ready.0.0 ready.0.1.0) in
          Contains-append_left (kept t complete) adds.added x here
    ]

    -- the digests that became ready are due
    pub coming_to_rest : IsComingToRest t met new (kept t complete ++ adds.added) adds.added
    coming_to_rest = record {
      standing = unmet_raised s round sound higher holders are unmet met at_rest.standing met_without;
      promoted = lacking_raised s round sound higher holders are lacking new without adds.added adds.exactly at_rest.promoted;
      listed = released t lacking new holders (kept t complete) fresh more without adds kept_listed;
      all = all_listed;
    }

-- ---- numbers of dropped blocks

-- at least the complete blocks below the round are dropped
pub lost_fits : (s : State) (lacking : Pairs) (round : ℕ) (holders : List Digest) (lost : ℕ) → HasCompleteBelow s lacking round holders lost → len (raised s round).blocks + lost ≤ len s.blocks
lost_fits s lacking round holders lost (xs, adds, counts) =
    let few = no_longer (keys t.blocks ++ adds.added) (keys s.blocks) (once_both (keys t.blocks) adds.added (once_keys t.blocks) adds.once apart) within in
    omega (arith, few, length-append (keys t.blocks) adds.added, sized t.blocks, sized s.blocks, ap (λ (ys : List Digest). length ys) adds.are, counts)
  where
    t : State
    t = raised s round

    sized : (m : FinMap digest_cmp Block) → length (keys m) ≡ len m
    sized m = length-map (entries m) (λ (e : Digest × Block). e.0) ∙ sym (len-entries m)

    held : (m : FinMap digest_cmp Block) (x : Digest) → Contains (keys m) x → (b : Block) × (get m x ≡ Some b)
    held m x among = which (get m x) (contains_key-keys m x ∙ list_any-from_Contains (eq_by_cmp_equiv digests_total) x (keys m) among)

    apart : (x : Digest) → Contains adds.added x → Contains (keys t.blocks) x → ⊥
    apart x among is =
        let (ready, (b, at, low)) = ((adds.exactly x).0 among).1 in
        let (c, there) = held t.blocks x is in
        let was = was_there (λ (y : Block). y.round) round s.blocks x c there in
        let same = one_block b c at was.0 in
        omega (arith, low, was.1, ap (λ (y : Block). y.round) same)

    within : (x : Digest) → Contains (keys t.blocks ++ adds.added) x → Contains (keys s.blocks) x
    within x among = elim (Contains-append_cases (keys t.blocks) adds.added x among) [
      | inl is ↦ let (c, there) = held t.blocks x is in held_among s.blocks x c (was_there (λ (y : Block). y.round) round s.blocks x c there).0
      | inr lost ↦ let (ready, (b, at, low)) = ((adds.exactly x).0 lost).1 in held_among s.blocks x b at
    ]

raised_by : (b : Bool) (floor n dropped : ℕ) → cond b (collect.NotHigher floor) (collect.Raised n) ≡ collect.Raised dropped → dropped ≡ n
raised_by true floor n dropped e = cc
raised_by false floor n dropped e = cc

-- the number in a reply is the number of dropped blocks
pub reply_counts : (s : State) (round dropped : ℕ) → collect_reply s round ≡ collect.Raised dropped → dropped ≡ len s.blocks - len (raised s round).blocks
reply_counts s round dropped is = raised_by (nat_le round s.floor) s.floor (len s.blocks - len (raised s round).blocks) dropped is

-- ---- the same, in terms of the contract

module _ (s : State) (unmet lacking : Pairs) (pending : ℕ) (holders : List Digest) (dropped : ℕ) (far : IsCollecting s unmet lacking pending holders dropped) where
  abbrev was : IsComingToRest far.before unmet lacking far.at_rest.complete []
  was = far.at_rest.coming_to_rest

  abbrev still : List Digest
  still = kept (raised far.before s.floor) far.at_rest.complete

  listed : AreListed (raised far.before s.floor) lacking still
  listed = kept_listed far.before s.floor unmet lacking far.at_rest.complete holders far.sound far.higher far.digests_up_to was

  counted : length still + far.lost ≡ length far.at_rest.complete
  counted = kept_count far.before s.floor unmet lacking far.at_rest.complete holders far.sound far.higher far.digests_up_to was far.lost far.are_lost

  fits : length still ≤ len s.blocks
  fits = subst (λ (t : State). length still ≤ len t.blocks) (sym far.raised) (listed_fits (raised far.before s.floor) lacking still listed)

  -- at most as many blocks were dropped as were pending
  pub dropped_fits : dropped ≤ pending
  dropped_fits = omega (arith, far.counts, far.at_rest.counts, counted, fits)

  pub count_kept : (left : ℕ) → left ≡ pending - dropped → HasPendingCount s lacking [] left
  count_kept left is = subst (λ (t : State). HasPendingCount t lacking [] left) (sym far.raised) (record {
    complete = still;
    listed = listed;
    apart = λ x none. absurd (contains_none x none);
    counts = omega (arith, is, far.counts, far.at_rest.counts, counted, fits, ap (λ (t : State). len t.blocks) far.raised);
  })

  pub collected : (met new : Pairs) (fresh more : List Digest) (mid left place : ℕ) → mid ≡ pending - dropped → AreReleased holders unmet met → AreReleased holders lacking new → AppendsThose (StandsButLacks s lacking) holders fresh more
      → length more + left ≡ length fresh + mid → place ≡ length fresh → IsCascading s met new (drop place more) left
  collected met new fresh more mid left place is met_without without adds most at = subst (λ (t : State). AppendsThose (StandsButLacks t lacking) holders fresh more → IsCascading t met new (drop place more) left) (sym far.raised) go adds
    where
      go : AppendsThose (StandsButLacks (raised far.before s.floor) lacking) holders fresh more → IsCascading (raised far.before s.floor) met new (drop place more) left
      go stuck = subst (λ xs. IsCascading (raised far.before s.floor) met new xs left) (sym (ap (drop place) stuck.are ∙ drop_at fresh stuck.added place (sym at))) (record {
        front = still;
        coming_to_rest = coming_to_rest far.before s.floor unmet lacking far.at_rest.complete holders far.sound far.higher far.digests_up_to was met new fresh more met_without without stuck;
        counts = omega (arith, is, far.counts, far.at_rest.counts, counted, fits, ap (λ (t : State). len t.blocks) far.raised, length-append still stuck.added, most_left stuck mid left most);
      })

-- the garbage round of a at_rest store was raised
pub collecting : (before s : State) (round : ℕ) (unmet lacking : Pairs) (pending : ℕ) (low holders : List Digest) (lost dropped : ℕ) → s ≡ raised before round → IsSound before → IsAtRest before unmet lacking pending
    → before.floor < round → AreDigestsUpTo before round low → holders ≡ low → HasCompleteBelow before lacking round low lost → dropped + lost + len s.blocks ≡ len before.blocks → IsCollecting s unmet lacking pending holders dropped
collecting before s round unmet lacking pending low holders lost dropped is sound at_rest higher digests_up_to same are_lost counts =
    subst (λ (t : State). IsCollecting t unmet lacking pending holders dropped) (sym is) (record {
      before = before;
      sound = sound;
      at_rest = at_rest;
      higher = higher;
      raised = refl;
      digests_up_to = subst (AreDigestsUpTo before round) (sym same) digests_up_to;
      lost = lost;
      are_lost = subst (λ xs. HasCompleteBelow before lacking round xs lost) (sym same) are_lost;
      counts = subst (λ (t : State). dropped + lost + len t.blocks ≡ len before.blocks) is counts;
    })

-- the growth since the holders were released
pub grown_collected : (s : State) (old mid new : Pairs) (holders fresh listed more : List Digest) → AreReleased holders old mid → AppendsThose (StandsButLacks s old) holders fresh listed → Grows s (IsReady s mid) mid new listed more → Grows s (IsReady s old) old new fresh more
grown_collected s old mid new holders fresh listed more without adds grown = record {
  still = λ x ready. grown.still x (ready.0, λ w lacks. ready.1 w ((without x w).0 lacks).0);
  begins = begins_more fresh listed more (adds.added, adds.are) grown.begins;
  listed = λ x ready. elim (grown.listed x ready) [
    | inl was ↦ elim (among_or_not adds.added x) [
      | inl added ↦ inr (subst (λ xs. Contains xs x) (sym grown.begins.1) (Contains-append_left listed grown.begins.0 x (subst (λ xs. Contains xs x) (sym adds.are) (Contains-append_right fresh adds.added x added))))
      | inr apart ↦ inl (
        was.0,
        λ w lacks. elim (among_or_not holders x) [
          | inl holder ↦ apart ((adds.exactly x).1 (holder, (was.0, (w, lacks))))
          | inr free ↦ was.1 w ((without x w).1 (lacks, free))
        ],
      )
    ]
    | inr among ↦ inr among
  ];
}
