-- Blocks with no missing parents.
use Rattle.nw_model.proofs.Words.{◌≡◌, ◌+◌, ◌-◌, ◌<◌, get_or, refl, subst, arith, inl, inr, All, All-contains, Contains-get_or, Block, contains_none}
use Rattle.nw_model.specs.declared.wanted.Wanted.{Wanted}
use Rattle.nw_model.specs.State.{State}
use Rattle.nw_model.specs.Paths.{IsSatisfied}
use Rattle.nw_model.specs.Missing.{Wants, wanted_cmp}
use Rattle.nw_model.specs.Laws.{BlocksWithTheirParentsMissNone}
use Rattle.nw_model.proofs.Complete.{one_block}
use Rattle.nw_model.proofs.Contained.{decided_satisfied}
use Rattle.nw_digest.proofs.Elements.{ordered_none}

-- a block that wants no parent has all its references satisfied
all_satisfied : (s : State) (b : Block) → ((w : Wanted) → Wants s b w → ⊥) → s.floor < b.round → All (IsSatisfied s b.round) b.parents
all_satisfied s b none above = λ k r lt.
    let reference = get_or b.parents k r in
    let w : Wanted = record { round = b.round - 1; author = reference.author; digest = reference.digest } in
    elim (decided_satisfied s b.round reference) [
      | inl satisfied ↦ satisfied
      | inr not ↦ absurd (none w (above, reference, Contains-get_or b.parents k r lt, not, ((let before : b.round - 1 + 1 ≡ b.round = omega arith in before), refl, refl)))
    ]

-- a block with all its references satisfied wants no parent
wants_none : (s : State) (b : Block) → (s.floor < b.round → All (IsSatisfied s b.round) b.parents) → (w : Wanted) → Wants s b w → ⊥
wants_none s b all w (above, r, among, not, named) = not (All-contains (IsSatisfied s b.round) b.parents r (all above) among)

pub none_missing : BlocksWithTheirParentsMissNone
none_missing s d b at = (
  λ (held, here, lists). all_satisfied s b (λ w wants. contains_none w ((lists.exactly w).1 (subst (λ (x : Block). Wants s x w) (one_block b held at here) wants))),
  λ all. (b, at, record { exactly = λ w. (λ among. absurd (contains_none w among), λ wants. absurd (wants_none s b all w wants)); ascending = ordered_none wanted_cmp }),
)
