-- The parents that blocks lack after one more promotion.
use Rattle.nw_dag.proofs.Words.{◌≡◌, ◌⊎◌, List, ◌∷◌, ◌++◌, Some, refl, ap, sym, ◌∙◌, subst, inl, inr, Contains, get, Contains-append_cases, Contains-append_left, Contains-append_right, Digest, Block, Wanted, Pairs, Lacks, State, IsStanding, one_block, contains_cases, contains_later, IsMet, name_of}
use Rattle.nw_dag.specs.Lacking.{ReferencesParent, IsReady, IsPromoted, AreLacking}
use Rattle.nw_dag.specs.Changes.{Promotes}
use Rattle.nw_dag.proofs.Pairs.{without_wanted_lacks, lacks_or_not, wanted_or_not}

same_wanted : (w : Wanted) (e : Digest) (b : Block) → w.digest ≡ e → w.author ≡ b.author → w.round ≡ b.round → w ≡ name_of e b
same_wanted w e b digest author round = λ i. record { round = round i; author = author i; digest = digest i }

-- a parent that is met under e is named as e's block
pub met_under : (s : State) (e : Digest) (b : Block) (w : Wanted) → get s.blocks e ≡ Some b → IsMet s w → w.digest ≡ e → w ≡ name_of e b
met_under s e b w held (p, stands, author, round) same =
    let here : p ≡ b = one_block p b (ap (get s.blocks) (sym same) ∙ stands.0) held in
    same_wanted w e b same (sym author ∙ ap (λ (x : Block). x.author) here) (sym round ∙ ap (λ (x : Block). x.round) here)

module _ (s : State) (e : Digest) (old new : Pairs) (complete more rest : List Digest) (far : AreLacking s old (e ∷ rest)) (ready_e : IsReady s old e) (once : Contains rest e → ⊥)
    (step : Promotes s e old new complete more) where
  abbrev v : Wanted
  v = name_of e step.block

  abbrev due : List Digest
  due = rest ++ step.added

  fewer : (d : Digest) (w : Wanted) → Lacks new d w → Lacks old d w × (v ≡ w → ⊥)
  fewer d w lacks = (without_wanted_lacks old v w d).0 (subst (λ (m : Pairs). Lacks m d w) step.lost lacks)

  kept : (d : Digest) (w : Wanted) → Lacks old d w → (v ≡ w → ⊥) → Lacks new d w
  kept d w lacks other = subst (λ (m : Pairs). Lacks m d w) (sym step.lost) ((without_wanted_lacks old v w d).1 (lacks, other))

  stands_e : IsStanding s e step.block
  stands_e = (step.held, ready_e.0.1.1)

  pub still_ready : (x : Digest) → IsReady s old x → IsReady s new x
  still_ready x ready = (ready.0, λ w lacks. ready.1 w (fewer x w lacks).0)

  not_due : (x : Digest) → IsReady s old x → (Contains rest x → ⊥) → Contains due x → ⊥
  not_due x ready apart among = elim (Contains-append_cases rest step.added x among) [ inl before ↦ apart before | inr added ↦ ready.1 v ((step.exactly x).0 added).0 ]

  keeps : (x : Digest) → IsPromoted s old (e ∷ rest) x → IsPromoted s new due x
  keeps x promoted = (still_ready x promoted.0, not_due x promoted.0 (λ among. promoted.1 (contains_later e rest x among)))

  e_promoted : IsPromoted s new due e
  e_promoted = (still_ready e ready_e, not_due e ready_e once)

  -- another digest that is promoted now was promoted before
  before : (x : Digest) → IsPromoted s new due x → (x ≡ e → ⊥) → IsPromoted s old (e ∷ rest) x
  before x promoted other = elim (lacks_or_not old x v) [
    | inl lacked ↦ absurd (promoted.1 (Contains-append_right rest step.added x ((step.exactly x).1 (lacked, promoted.0))))
    | inr never ↦ (
      (promoted.0.0, λ w lacks. promoted.0.1 w (kept x w lacks (λ same. never (subst (λ (y : Wanted). Lacks old x y) (sym same) lacks)))),
      λ among. elim (contains_cases e rest x among) [ inl first ↦ other (sym first) | inr later ↦ promoted.1 (Contains-append_left rest step.added x later) ],
    )
  ]

  each : (d : Digest) (w : Wanted) → ReferencesParent s d w → Lacks new d w ⊎ (IsMet s w × IsPromoted s new due w.digest)
  each d w names = elim (far.each d w names) [
    | inl lacks ↦ elim (wanted_or_not v w) [
      | inl same ↦ inr (subst (λ (y : Wanted). IsMet s y × IsPromoted s new due y.digest) same ((step.block, stands_e, refl, refl), e_promoted))
      | inr other ↦ inl (kept d w lacks other)
    ]
    | inr (met, promoted) ↦ inr (met, keeps w.digest promoted)
  ]

  only : (d : Digest) (w : Wanted) → Lacks new d w → ReferencesParent s d w × (IsMet s w → IsPromoted s new due w.digest → ⊥)
  only d w lacks =
      let was = fewer d w lacks in
      let names = far.only d w was.0 in
      (names.0, λ met promoted. names.1 met (before w.digest promoted (λ same. was.1 (sym (met_under s e step.block w step.held met same)))))

  pub promoted : AreLacking s new (rest ++ step.added)
  promoted = record { each = each; only = only }
