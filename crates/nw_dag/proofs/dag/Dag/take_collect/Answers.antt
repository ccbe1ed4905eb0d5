use Rattle.nw_dag.proofs.Words.{◌∙◌, ap, sym, subst, arith, len, State}
use Rattle.nw_model.proofs.Firsts.{higher}
use Rattle.nw_dag.specs.Collection.{HasCompleteBelow}
use Rattle.nw_dag.specs.Frozen.{AreFrozenExcept}
use Rattle.nw_dag.proofs.Refrozen.{frozen_raised}
use Rattle.nw_dag.proofs.Collecting.{collecting, lost_fits, reply_counts}
use Rattle.nw_dag.proofs.dag.Dag.take_collect.Goals as goal

pub overflow_sub-dropped : goal.overflow_sub-dropped
overflow_sub-dropped c =
    let s : State = c.self.inside.held.state in
    let fits = lost_fits s c.self.inside.waits.missing.lacking c.args.round c.deref.result.now c.complete_below-complete.result c.complete_below-complete.ensures in
    let counts = reply_counts s c.args.round _ (rw (← c.self.view_is) at (sym c.requires ∙ c.in-Raised.is)) in
    omega (arith, fits, counts)

pub collect-requires : goal.collect-requires
collect-requires c =
    let s : State = c.self.inside.held.state in
    let waits = c.self.inside.waits in
    let low = c.in_ok-holders.holders.items in
    let is = rw (← c.self.view_is) at (sym c.requires ∙ c.in-Raised.is) in
    let fits = lost_fits s waits.missing.lacking c.args.round c.deref.result.now c.complete_below-complete.result c.complete_below-complete.ensures in
    collecting s c.raise.new.self.state c.args.round waits.missing.unmet waits.missing.lacking waits.completions.pending low c.deref-3.result.now c.complete_below-complete.result _ c.raise.ensures.state c.digests_up_to.ensures.sound c.self.invariant.at_rest
    (higher s c.args.round _ is) c.in_ok-holders.ensures.digests c.deref-3.ensures.value
    (subst (λ xs. HasCompleteBelow s waits.missing.lacking c.args.round xs c.complete_below-complete.result) c.deref.ensures.value c.complete_below-complete.ensures)
    (omega (arith, fits, reply_counts s c.args.round _ is, ap (λ (t : State). len t.blocks) c.raise.ensures.state))

pub invariant_of-self : goal.invariant_of-self
invariant_of-self c =
    let s : State = c.self.inside.held.state in
    let waits = c.self.inside.waits in
    let new = c.collect.new.self in
    record {
      at_rest = c.collect.ensures.at_rest;
      frozen = subst (λ (t : State). AreFrozenExcept t new.missing.lacking new.completions.fresh.items c.self.inside.generations.blocks) (sym c.raise.ensures.state)
          (frozen_raised s c.args.round c.digests_up_to.ensures.sound (higher c.self.inside.held.state c.args.round _ (rw (← c.self.view_is) at (sym c.requires ∙ c.in-Raised.is))) c.in_ok-holders.holders.items c.in_ok-holders.ensures.digests waits.missing.lacking new.missing.lacking waits.completions.fresh.items new.completions.fresh.items
          c.self.inside.generations.blocks c.self.invariant.frozen (rw c.raise.ensures.state at c.collect.ensures.grown));
    }
