-- Frozen blocks, and the states that views of them show.
use Rattle.nw_dag.proofs.Words.{◌≡◌, ◌⊎◌, ℕ, List, [], ◌∷◌, ◌++◌, Option, Some, None, get_or, length, refl, ap, sym, ◌∙◌, subst, arith, inl, inr, Contains, FinMap, get, get-empty, Contains-append_cases, Contains-append_left, Contains-append_right, none-some, Digest, Block, Pairs, digest_cmp, State, opening, IsStanding, IsSound, Frozen, Shows, one_block, parents_complete, after_insert, at_insert, digests_apart, digests_total, is_kept, was_there, contains_cases, contains_first, contains_none, which, Stands}
use Rattle.std.specs.Option.{option_or}
use Rattle.std.specs.FinMap.{empty, insert, same_map}
use Rattle.nw_plain.proofs.Freezing.{stays}
use Rattle.nw_model.specs.Step.{from_round}
use Rattle.nw_model.specs.View.{IsClosed}
use Rattle.nw_generation.specs.Seen.{IsOverlay}
use Rattle.nw_dag.specs.Lacking.{IsReady}
use Rattle.nw_dag.specs.AtRest.{IsAtRest}
use Rattle.nw_dag.specs.Frozen.{IsHeldReady, AreHeldUnder, AreFrozen, AreFrozenExcept, AreAllOrFrom, Grows}
use Rattle.nw_dag.proofs.Arrival.{Arrives, AreLackingSince, ready_still, ready_was}
use Rattle.nw_dag.proofs.Complete.{ready_complete}

-- ---- frozen blocks as the store continues

pub frozen_opening : (lacking : Pairs) → AreFrozenExcept opening lacking [] empty
frozen_opening lacking = record {
  only = λ d b kept at. absurd (none-some b (sym (get-empty digest_cmp d) ∙ at));
  each = λ d b kept (ready, at). absurd (none-some b (sym (get-empty digest_cmp d) ∙ at));
}

-- the frozen blocks stay right if the blocks do not change and each newly ready digest is listed
pub frozen_still : (s t : State) (old new : Pairs) (fresh more : List Digest) (blocks : FinMap digest_cmp Block) → AreFrozenExcept s old fresh blocks → t.floor ≡ s.floor
    → ((x : Digest) → IsReady s old x → IsReady t new x × (get t.blocks x ≡ get s.blocks x)) → ((x : Digest) → IsReady t new x → IsReady s old x ⊎ Contains more x)
    → ((x : Digest) → IsReady s old x → Contains fresh x → Contains more x) → AreFrozenExcept t new more blocks
frozen_still s t old new fresh more blocks was floor same cases kept = record {
  only = λ d b high at. let before = was.only d b (omega (arith, high, floor)) at in (let now = same d before.0 in (now.0, now.1 ∙ before.1));
  each = λ d b high (ready, at). elim (cases d ready) [
    | inl before ↦ elim (was.each d b (omega (arith, high, floor)) (before, sym (same d before).1 ∙ at)) [ inl frozen ↦ inl frozen | inr among ↦ inr (kept d before among) ]
    | inr among ↦ inr among
  ];
}

-- fewer digests are listed, but still each ready one
pub frozen_fewer : (s : State) (lacking : Pairs) (fresh more : List Digest) (blocks : FinMap digest_cmp Block) → AreFrozenExcept s lacking fresh blocks → ((x : Digest) → Contains fresh x → IsReady s lacking x → Contains more x)
    → AreFrozenExcept s lacking more blocks
frozen_fewer s lacking fresh more blocks was kept = record {
  only = was.only;
  each = λ d b high held. elim (was.each d b high held) [ inl frozen ↦ inl frozen | inr among ↦ inr (kept d among held.0) ];
}

module _ (s t : State) (d : Digest) (old mid new : Pairs) (start fresh more : List Digest) (blocks : FinMap digest_cmp Block) (arrives : Arrives s t d) (since : AreLackingSince s t d old mid)
    (others : (x : Digest) → (x ≡ d → ⊥) → get t.blocks x ≡ get s.blocks x) (floor : t.floor ≡ s.floor) (was : AreFrozenExcept s old start blocks) (kept : (x : Digest) → Contains start x → IsReady s old x → Contains fresh x)
    (grown : Grows t (λ x. IsReady t mid x × (x ≡ d → ⊥)) mid new fresh more) where
  -- one more digest stands
  pub frozen_arrived : AreFrozenExcept t new more blocks
  frozen_arrived = frozen_still s t old new start more blocks was floor
      (λ x ready. (grown.still x (ready_still s t d arrives old mid since x ready), others x (λ same. arrives.absent (subst (λ q. Stands s q) same ready.0))))
      (λ x ready. elim (grown.listed x ready) [
        | inl before ↦ inl (ready_was s t d arrives old mid since x before.1 before.0)
        | inr among ↦ inr among
      ])
      (λ x ready among. subst (λ xs. Contains xs x) (sym grown.begins.1) (Contains-append_left fresh grown.begins.0 x (kept x among ready)))

-- if each ready block is frozen, any digests may be listed
pub frozen_all : (s : State) (lacking : Pairs) (fresh : List Digest) (blocks : FinMap digest_cmp Block) → AreFrozen s lacking blocks → AreFrozenExcept s lacking fresh blocks
frozen_all s lacking fresh blocks are = record {
  only = λ d b kept at. (are d b kept).0 at;
  each = λ d b kept held. inl ((are d b kept).1 held);
}

-- if no digest is listed, each ready block is frozen
pub frozen_none : (s : State) (lacking : Pairs) (fresh : List Digest) (blocks : FinMap digest_cmp Block) → AreFrozenExcept s lacking fresh blocks → length fresh ≡ 0 → AreFrozen s lacking blocks
frozen_none s lacking [] blocks was none = λ d b kept. (was.only d b kept, λ held. elim (was.each d b kept held) [ inl there ↦ there | inr among ↦ absurd (contains_none d among) ])
frozen_none s lacking (x ∷ xs) blocks was none = absurd (omega (arith, none))

-- blocks below the garbage round are removed
pub frozen_above : (s : State) (lacking : Pairs) (fresh : List Digest) (all kept : FinMap digest_cmp Block) → AreFrozenExcept s lacking fresh all → kept ≡ from_round (λ (b : Block). b.round) s.floor all → AreFrozenExcept s lacking fresh kept
frozen_above s lacking fresh all kept was is = record {
  only = λ d b high at. was.only d b high (was_there (λ (x : Block). x.round) s.floor all d b (ap (λ (m : FinMap digest_cmp Block). get m d) (sym is) ∙ at)).0;
  each = λ d b high held. elim (was.each d b high held) [
    | inl there ↦ inl (ap (λ (m : FinMap digest_cmp Block). get m d) is ∙ is_kept (λ (x : Block). x.round) s.floor all d b there high)
    | inr among ↦ inr among
  ];
}

-- all blocks are kept, or those from the garbage round on
pub frozen_kept : (s : State) (lacking : Pairs) (fresh : List Digest) (all kept : FinMap digest_cmp Block) → AreFrozenExcept s lacking fresh all → AreAllOrFrom s.floor all kept → AreFrozenExcept s lacking fresh kept
frozen_kept s lacking fresh all kept was (inl same) = subst (AreFrozenExcept s lacking fresh) (sym same) was
frozen_kept s lacking fresh all kept was (inr above) = frozen_above s lacking fresh all kept was above

-- one more generation
pub frozen_over : (s : State) (lacking : Pairs) (fresh : List Digest) (older newer blocks : FinMap digest_cmp Block) → AreFrozenExcept s lacking fresh older → ((d : Digest) → Contains fresh d → IsReady s lacking d) → AreHeldUnder s fresh newer
    → IsOverlay newer older blocks → AreFrozen s lacking blocks
frozen_over s lacking fresh older newer blocks was ready are over d b kept = (λ at. down (get newer d) (get older d) refl refl (sym (over d) ∙ at), up)
  where
    down : (one old : Option Block) → get newer d ≡ one → get older d ≡ old → option_or one old ≡ Some b → IsHeldReady s lacking d b
    down (Some c) old here there is =
        let held = (are d b).0 (here ∙ is) in
        (ready d held.0, held.1)
    down None old here there is = was.only d b kept (there ∙ is)

    later : (one : Option Block) → get newer d ≡ one → get s.blocks d ≡ Some b → get older d ≡ Some b → option_or one (get older d) ≡ Some b
    later (Some c) here at there = ap Some (one_block c b ((are d c).0 here).1 at)
    later None here at there = there

    up : IsHeldReady s lacking d b → get blocks d ≡ Some b
    up held = over d ∙ elim (was.each d b kept held) [
      | inl there ↦ later (get newer d) refl held.1 there
      | inr among ↦ ap (λ f. option_or f (get older d)) ((are d b).1 (among, held.1))
    ]

-- one generation on top of none
pub over_nothing : (newer older both : FinMap digest_cmp Block) → older ≡ empty → IsOverlay newer older both → both ≡ newer
over_nothing newer older both none over = same_map digests_total digests_apart both newer (λ d.
    over d ∙ ap (option_or (get newer d)) (ap (λ (m : FinMap digest_cmp Block). get m d) none ∙ get-empty digest_cmp d) ∙ alone (get newer d))
  where
    alone : (found : Option Block) → option_or found None ≡ found
    alone None = refl
    alone (Some b) = refl

-- ---- the blocks held under digests

pub held_none : (s : State) → AreHeldUnder s [] empty
held_none s d b = (λ at. absurd (none-some b (sym (get-empty digest_cmp d) ∙ at)), λ held. absurd (contains_none d held.0))

-- one more digest, under which a block is held
pub held_more : (s : State) (xs : List Digest) (old new : FinMap digest_cmp Block) (d : Digest) (b : Block) → AreHeldUnder s xs old → get s.blocks d ≡ Some b → new ≡ insert old d b → AreHeldUnder s (xs ++ d ∷ []) new
held_more s xs old new d b are at put q c = (
  λ found. elim (after_insert old d b q c (ap (λ (m : FinMap digest_cmp Block). get m q) (sym put) ∙ found)) [
    | inl here ↦ (subst (Contains (xs ++ d ∷ [])) (sym here.0) (Contains-append_right xs (d ∷ []) d (contains_first d [])), ap (get s.blocks) here.0 ∙ at ∙ ap Some here.1)
    | inr there ↦ let held = (are q c).0 there in (Contains-append_left xs (d ∷ []) q held.0, held.1)
  ],
  λ (among, held). ap (λ (m : FinMap digest_cmp Block). get m q) put ∙ elim (Contains-append_cases xs (d ∷ []) q among) [
    | inl front ↦ stays old d b q c ((are q c).1 (front, held)) (λ one. one_block b c at (ap (get s.blocks) (sym one) ∙ held))
    | inr behind ↦ elim (contains_cases d [] q behind) [
      | inl here ↦ ap (get (insert old d b)) (sym here) ∙ at_insert old d b ∙ sym at ∙ ap (get s.blocks) here ∙ held
      | inr none ↦ absurd (contains_none q none)
    ]
  ],
)

-- one more digest, under which no block is held
pub held_same : (s : State) (xs : List Digest) (old new : FinMap digest_cmp Block) (d : Digest) → AreHeldUnder s xs old → get s.blocks d ≡ None → new ≡ old → AreHeldUnder s (xs ++ d ∷ []) new
held_same s xs old new d are lacks same q c = (
  λ found. let held = (are q c).0 (ap (λ (m : FinMap digest_cmp Block). get m q) (sym same) ∙ found) in (Contains-append_left xs (d ∷ []) q held.0, held.1),
  λ (among, held). ap (λ (m : FinMap digest_cmp Block). get m q) same ∙ elim (Contains-append_cases xs (d ∷ []) q among) [
    | inl front ↦ (are q c).1 (front, held)
    | inr behind ↦ elim (contains_cases d [] q behind) [
      | inl here ↦ absurd (none-some c (sym lacks ∙ ap (get s.blocks) here ∙ held))
      | inr none ↦ absurd (contains_none q none)
    ]
  ],
)

-- ---- the state that a view shows

pub shown : (s : State) (unmet lacking : Pairs) (pending : ℕ) (v : Frozen) → IsSound s → IsAtRest s unmet lacking pending → v.floor ≡ s.floor → AreFrozen s lacking v.blocks → Shows v s
shown s unmet lacking pending v sound at_rest floor are = record {
  floor = floor;
  complete = λ d b.
      let same = ready_complete s lacking at_rest.coming_to_rest.promoted sound d in (
        λ (at, kept).
            let held = (are d b (omega (arith, floor, kept))).0 at in
            (held.1, omega (arith, floor, kept), same.0 held.0),
        λ (at, kept, whole). ((are d b kept).1 (same.1 whole, at), omega (arith, floor, kept)),
      );
}

pub closed : (s : State) (v : Frozen) → IsSound s → Shows v s → IsClosed v
closed s v sound shows = record {
  parents = λ d b at above.
      let floor : v.floor ≡ s.floor = shows.floor in
      let held = (shows.complete d b).0 (at, omega (arith, above)) in
      let stands : IsStanding s d b = (held.0, held.2.stands.1.1) in
      λ k r lt.
      let both = parents_complete s d b held.2 stands (omega (arith, above, floor)) k r lt in
      let parent = both.0 in
      let there = (shows.complete (get_or b.parents k r).digest parent.0).1 (parent.1.0, sound.blocks_kept (get_or b.parents k r).digest parent.0 parent.1.0, both.1) in
      (parent.0, there.0, parent.2, parent.3);
  apart = λ d e b c at_d at_e above same.
      let round : b.round ≡ c.round = ap (λ q. q.0) same in
      let one = (shows.complete d b).0 (at_d, above) in
      let other = (shows.complete e c).0 (at_e, omega (arith, above, round)) in
      let for_d = which (get s.certificates d) one.2.stands.1.1 in
      let for_e = which (get s.certificates e) other.2.stands.1.1 in
      sound.one_certificate d e for_d.0 for_e.0 for_d.1 for_e.1 (sym (sound.one_slot d b for_d.0 one.0 for_d.1) ∙ same ∙ sound.one_slot e c for_e.0 other.0 for_e.1);
}
