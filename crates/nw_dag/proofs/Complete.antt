-- If nothing is due, the ready digests are exactly the complete ones.
use Rattle.nw_dag.proofs.Words.{◌≡◌, ◌↔◌, ℕ, ◌+◌, ◌-◌, ◌<◌, zero, suc, [], Some, get_or, refl, sym, ◌∙◌, subst, arith, inl, inr, Contains, IsTrue, get, cases_lt, All-contains, Contains-get_or, Digest, Ref, Block, Wanted, Pairs, State, IsStanding, IsComplete, IsSound, one_block, parents_complete, is_held, Slot, which, is_there, contains_none, IsMet, IsNamedBy}
use Rattle.nw_model.specs.Paths.{IsSatisfied}
use Rattle.nw_model.proofs.Complete.{complete_from_parents}
use Rattle.nw_model.specs.Step.{certified_digest}
use Rattle.nw_model.proofs.Kept.{certified_is}
use Rattle.nw_dag.specs.Lacking.{IsReady, AreLacking, LacksNothing}

-- the parent that a reference names
abbrev pub named_by : ℕ → Ref → Wanted
named_by round r = record { round = round - 1; author = r.author; digest = r.digest }

-- a parent is met exactly when the reference that names it is satisfied
pub met_from_satisfied : (s : State) (round : ℕ) (r : Ref) (w : Wanted) → IsNamedBy round r w → IsSatisfied s round r → IsMet s w
met_from_satisfied s round r w (before, author, digest) (p, stands, same, next) =
    (p, subst (λ q. IsStanding s q p) (sym digest) stands, same ∙ sym author, omega (arith, before, next))

pub satisfied_from_met : (s : State) (round : ℕ) (r : Ref) (w : Wanted) → IsNamedBy round r w → IsMet s w → IsSatisfied s round r
satisfied_from_met s round r w (before, author, digest) (p, stands, same, here) =
    (p, subst (λ q. IsStanding s q p) digest stands, same ∙ author, omega (arith, before, here))

module _ (s : State) (lacking : Pairs) (far : AreLacking s lacking []) where
  complete_below : IsSound s → (n : ℕ) (d : Digest) (b : Block) → b.round < n → IsStanding s d b → IsReady s lacking d → IsComplete s d
  complete_below sound zero d b below stands ready = absurd (omega (arith, below))
  complete_below sound (suc n) d b below stands ready = elim (cases_lt s.floor b.round) [
    | inl above ↦ complete_from_parents s d b sound stands (inr (λ k r lt.
        let reference = get_or b.parents k r in
        let w = named_by b.round reference in
        let named : IsNamedBy b.round reference w = (omega (arith, above), refl, refl) in
        elim (far.each d w (b, stands.0, above, (reference, Contains-get_or b.parents k r lt, named))) [
          | inl lacks ↦ absurd (ready.1 w lacks)
          | inr (met, promoted) ↦ (satisfied_from_met s b.round reference w named met, complete_below sound n reference.digest met.0 (omega (arith, met.3, below, above)) met.1 promoted.0)
        ]))
    | inr low ↦ complete_from_parents s d b sound stands (inl low)
  ]

  ready_below : (n : ℕ) (d : Digest) (b : Block) → b.round < n → IsStanding s d b → IsComplete s d → IsReady s lacking d
  ready_below zero d b below stands whole = absurd (omega (arith, below))
  ready_below (suc n) d b below stands whole = (
    (b, stands),
    λ w lacks.
        let both = far.only d w lacks in
        let names = both.0 in
        let here : names.0 ≡ b = one_block names.0 b names.1 stands.0 in
        let above : s.floor < b.round = subst (λ (x : Block). s.floor < x.round) here names.2 in
        let r = names.3.0 in
        let named : IsNamedBy b.round r w = subst (λ (x : Block). IsNamedBy x.round r w) here names.3.2 in
        let among : Contains b.parents r = subst (λ (x : Block). Contains x.parents r) here names.3.1 in
        let parent = All-contains (λ q. IsSatisfied s b.round q × IsComplete s q.digest) b.parents r (parents_complete s d b whole stands above) among in
        let met = met_from_satisfied s b.round r w named parent.0 in
        both.1 met (ready_below n w.digest met.0 (omega (arith, met.3, named.0, below)) met.1 (subst (λ q. IsComplete s q) (sym named.2) parent.1), contains_none w.digest),
  )

  pub complete_ready : (d : Digest) → IsComplete s d → IsReady s lacking d
  complete_ready d whole = ready_below (whole.stands.0.round + 1) d whole.stands.0 (omega arith) whole.stands.1 whole

  pub ready_complete : IsSound s → (d : Digest) → IsReady s lacking d ↔ IsComplete s d
  ready_complete sound d = (λ ready. complete_below sound (ready.0.0.round + 1) d ready.0.0 (omega arith) ready.0.1 ready, complete_ready d)

  -- a certified digest is complete exactly if its block is held and it lacks nothing
  pub certified_complete : IsSound s → (slot : Slot) (d : Digest) → certified_digest s slot ≡ Some d → (IsTrue (is_held s d) × LacksNothing lacking d) ↔ IsComplete s d
  certified_complete sound slot d is =
      let (c, at, here) = (certified_is s sound slot d).0 is in (
        λ (held, nothing).
            let (b, there) = which (get s.blocks d) held in
            (ready_complete sound d).0 ((b, (there, is_there (get s.certificates d) c at)), nothing),
        λ whole.
            let ready = complete_ready d whole in
            (is_there (get s.blocks d) ready.0.0 ready.0.1.0, ready.1),
      )
