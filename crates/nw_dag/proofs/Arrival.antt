-- The parents that blocks lack after one more digest stands.
use Rattle.nw_dag.proofs.Words.{◌≡◌, ◌↔◌, ◌⊎◌, List, [], ◌∷◌, refl, sym, subst, inl, inr, Contains, All-weaker, All-contains, Digest, Block, Wanted, Pairs, Lacks, without_wanted, State, IsStanding, contains_cases, contains_first, contains_none, Stands, IsMet, name_of}
use Rattle.nw_dag.specs.Lacking.{ReferencesParent, IsReady, IsPromoted, AreLacking, AreUnmet, AreUnmetWithout}
use Rattle.nw_dag.specs.AtRest.{AreListed}
use Rattle.nw_dag.proofs.Pairs.{without_wanted_lacks}
use Rattle.nw_dag.proofs.Cascade.{met_under}

-- d does not stand in s, and each other digest stands in both states or in neither
pub record Arrives (s t : State) (d : Digest) : Type 0 where
  pub absent : Stands s d → ⊥
  pub others : (x : Digest) (b : Block) → (x ≡ d → ⊥) → IsStanding t x b ↔ IsStanding s x b

-- each block lacks the parents that it names in t and that are not met or not ready in s, and only d's pairs changed
pub record AreLackingSince (s t : State) (d : Digest) (old new : Pairs) : Type 0 where
  pub each : (h : Digest) (w : Wanted) → ReferencesParent t h w → Lacks new h w ⊎ (IsMet s w × IsReady s old w.digest)
  pub only : (h : Digest) (w : Wanted) → Lacks new h w → ReferencesParent t h w × (IsMet s w → IsReady s old w.digest → ⊥)
  pub same : (h : Digest) (w : Wanted) → (h ≡ d → ⊥) → Lacks new h w ↔ Lacks old h w

module _ (s t : State) (d : Digest) (arrives : Arrives s t d) where
  -- a parent that was met still is
  met_still : (w : Wanted) → IsMet s w → IsMet t w
  met_still w (b, stands, author, round) = (b, (arrives.others w.digest b (λ same. arrives.absent (subst (λ q. Stands s q) same (b, stands)))).1 stands, author, round)

  -- a parent that is met and is not d was met before
  met_before : (w : Wanted) → IsMet t w → (w.digest ≡ d → ⊥) → IsMet s w
  met_before w (b, stands, author, round) other = (b, (arrives.others w.digest b other).0 stands, author, round)

  module _ (old new : Pairs) (since : AreLackingSince s t d old new) where
    apart : (x : Digest) → IsReady s old x → x ≡ d → ⊥
    apart x ready same = arrives.absent (subst (λ q. Stands s q) same ready.0)

    pub ready_still : (x : Digest) → IsReady s old x → IsReady t new x
    ready_still x ready =
        let other = apart x ready in
        ((ready.0.0, (arrives.others x ready.0.0 other).1 ready.0.1), λ w lacks. ready.1 w ((since.same x w other).0 lacks))

    not_d : (x : Digest) → IsPromoted t new (d ∷ []) x → x ≡ d → ⊥
    not_d x promoted same = promoted.1 (subst (Contains (d ∷ [])) (sym same) (contains_first d []))

    promoted_still : (x : Digest) → IsReady s old x → IsPromoted t new (d ∷ []) x
    promoted_still x ready = (ready_still x ready, λ among. elim (contains_cases d [] x among) [ inl here ↦ apart x ready (sym here) | inr there ↦ contains_none x there ])

    ready_before : (x : Digest) → IsPromoted t new (d ∷ []) x → IsReady s old x
    ready_before x promoted =
        let other = not_d x promoted in
        ((promoted.0.0.0, (arrives.others x promoted.0.0.0 other).0 promoted.0.0.1), λ w lacks. promoted.0.1 w ((since.same x w other).1 lacks))

    -- a ready digest other than d was ready before
    pub ready_was : (x : Digest) → (x ≡ d → ⊥) → IsReady t new x → IsReady s old x
    ready_was x other ready = ((ready.0.0, (arrives.others x ready.0.0 other).0 ready.0.1), λ w lacks. ready.1 w ((since.same x w other).1 lacks))

    pub arrived : AreLacking t new (d ∷ [])
    arrived = record {
      each = λ h w names. elim (since.each h w names) [
        | inl lacks ↦ inl lacks
        | inr (met, ready) ↦ inr (met_still w met, promoted_still w.digest ready)
      ];
      only = λ h w lacks. let both = since.only h w lacks in
          (both.0, λ met promoted. both.1 (met_before w met (not_d w.digest promoted)) (ready_before w.digest promoted));
    }

    pub listed_arrived : (complete : List Digest) → AreListed s old complete → AreListed t new complete
    listed_arrived complete listed = record { ready = All-weaker (IsReady s old) (IsReady t new) ready_still complete listed.ready; once = listed.once }

    pub listed_apart : (complete : List Digest) → AreListed s old complete → Contains complete d → ⊥
    listed_apart complete listed among = arrives.absent (All-contains (IsReady s old) complete d listed.ready among).0

  -- the unmet parents of s are the unmet ones of t without counting d
  pub unmet_arrived : (new : Pairs) → ((h : Digest) (w : Wanted) → Lacks new h w ↔ (ReferencesParent t h w × (IsMet s w → ⊥))) → AreUnmetWithout t d new
  unmet_arrived new since h w = (
    λ lacks. let both = (since h w).0 lacks in (both.0, λ (met, other). both.1 (met_before w met other)),
    λ (names, unmet). (since h w).1 (names, λ met. unmet (met_still w met, λ same. arrives.absent (subst (λ q. Stands s q) same (met.0, met.1)))),
  )

-- d stands, and no block lacks it from now on
pub met_now : (t : State) (d : Digest) (b : Block) (old new : Pairs) → IsStanding t d b → AreUnmetWithout t d old → new ≡ without_wanted old (name_of d b) → AreUnmet t new
met_now t d b old new stands since is h w = (
  λ lacks.
      let was = (without_wanted_lacks old (name_of d b) w h).0 (subst (λ (m : Pairs). Lacks m h w) is lacks) in
      let both = (since h w).0 was.0 in
      (both.0, λ met. both.1 (met, λ here. was.1 (sym (met_under t d b w stands.0 met here)))),
  λ (names, unmet). subst (λ (m : Pairs). Lacks m h w) (sym is) ((without_wanted_lacks old (name_of d b) w h).1 (
    (since h w).1 (names, λ without. unmet without.0),
    λ same. unmet (subst (λ (v : Wanted). IsMet t v) same (b, stands, refl, refl)),
  )),
)

-- d does not stand
pub met_not_yet : (t : State) (d : Digest) (old : Pairs) → (Stands t d → ⊥) → AreUnmetWithout t d old → AreUnmet t old
met_not_yet t d old not_yet since h w = (
  λ lacks. let both = (since h w).0 lacks in (both.0, λ met. both.1 (met, λ same. not_yet (subst (λ q. Stands t q) same (met.0, met.1)))),
  λ (names, unmet). (since h w).1 (names, λ without. unmet without.0),
)

-- d is not ready, so nothing is due
pub not_ready_yet : (t : State) (d : Digest) (lacking : Pairs) → (IsReady t lacking d → ⊥) → AreLacking t lacking (d ∷ []) → AreLacking t lacking []
not_ready_yet t d lacking not_yet far = record {
  each = λ h w names. elim (far.each h w names) [
    | inl lacks ↦ inl lacks
    | inr (met, promoted) ↦ inr (met, (promoted.0, contains_none w.digest))
  ];
  only = λ h w lacks. let both = far.only h w lacks in (
    both.0,
    λ met promoted. both.1 met (
      promoted.0,
      λ among. elim (contains_cases d [] w.digest among) [
        | inl here ↦ not_yet (subst (λ q. IsReady t lacking q) (sym here) promoted.0)
        | inr there ↦ contains_none w.digest there
      ],
    ),
  );
}
