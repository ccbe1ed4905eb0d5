use Rattle.nw_dag.proofs.Words.{◌≡◌, ◌+◌, None, [], ap, refl, sym, ◌∙◌, subst, Contains, get, Digest, State, with_block, Block}
use Rattle.nw_dag.specs.declared.completions.Completions.{Completions}
use Rattle.nw_dag.specs.Frozen.{AreFrozenExcept}
use Rattle.nw_dag.proofs.Freezing.{frozen_arrived, frozen_fewer}
use Rattle.nw_model.proofs.Carried.{stored_anew}
use Rattle.nw_dag.proofs.Written.{block_arrives, split_at_rest, forgotten, get_other, nothing_unmet, nothing_lacking, since_written, wants_same, written}
use Rattle.nw_dag.proofs.dag.Dag.take_write.Goals as goal

pub add_parents-requires-clause-split : goal.add_parents-requires-clause-split
add_parents-requires-clause-split c =
    let coming_to_rest = c.self.invariant.at_rest.coming_to_rest in
    split_at_rest c.self.inside.held.state c.self.inside.waits.missing.unmet c.self.inside.waits.missing.lacking [] coming_to_rest.standing coming_to_rest.promoted

pub invariant_of-self-in_err-add_parents : goal.invariant_of-self-in_err-add_parents
invariant_of-self-in_err-add_parents c =
    let waits = c.self.inside.waits in
    rw (c.in_err-add_parents.ensures.unchanged.0, c.in_err-add_parents.ensures.unchanged.1, c.add_parents.ensures.completions, c.reserve.ensures.pending)
    (record { at_rest = c.self.invariant.at_rest; frozen = frozen_fewer c.self.inside.held.state waits.missing.lacking waits.completions.fresh.items c.reserve.new.self.fresh.items c.self.inside.generations.blocks c.self.invariant.frozen c.reserve.ensures.kept })

pub invariant_of-self-in-Err : goal.invariant_of-self-in-Err
invariant_of-self-in-Err c =
    let s : State = c.self.inside.held.state in
    let d : Digest = c.args.digest in
    let none : get s.blocks d ≡ None = stored_anew c.self.inside.held.bounds c.self.inside.held.state c.args.digest c.args.block.now c.in-Stored.vote (rw (← c.self.view_is) at (sym c.requires ∙ c.in-Stored.is)) in
    let waits = c.self.inside.waits in
    let wanted = c.add_parents.new.self in
    let unmet : c.forget.new.self.missing.unmet ≡ waits.missing.unmet = c.forget.ensures.unmet
    ∙ forgotten d waits.missing.unmet wanted.missing.unmet (wants_same _ _ d waits.missing.unmet wanted.missing.unmet c.in_ok-add_parents.ensures.unmet) (nothing_unmet s d waits.missing.unmet none c.self.invariant.at_rest.coming_to_rest.standing) in
    let lacking : c.forget.new.self.missing.lacking ≡ waits.missing.lacking = c.forget.ensures.lacking
    ∙ forgotten d waits.missing.lacking wanted.missing.lacking (wants_same _ _ d waits.missing.lacking wanted.missing.lacking c.in_ok-add_parents.ensures.lacking) (nothing_lacking s d waits.missing.lacking none c.self.invariant.at_rest.coming_to_rest.promoted) in
    rw (c.in-Err.ensures.unchanged, unmet, lacking, c.forget.ensures.completions, c.add_parents.ensures.completions, c.reserve.ensures.pending)
    (record { at_rest = c.self.invariant.at_rest; frozen = frozen_fewer s waits.missing.lacking waits.completions.fresh.items c.reserve.new.self.fresh.items c.self.inside.generations.blocks c.self.invariant.frozen c.reserve.ensures.kept })

pub add_pending-requires : goal.add_pending-requires
add_pending-requires c = rw c.add_parents.ensures.completions c.in_ok-reserve.ensures.room

pub arrive-requires : goal.arrive-requires
arrive-requires c =
    let s : State = c.self.inside.held.state in
    let none : get s.blocks c.args.digest ≡ None = stored_anew c.self.inside.held.bounds c.self.inside.held.state c.args.digest c.args.block.now c.in-Stored.vote (rw (← c.self.view_is) at (sym c.requires ∙ c.in-Stored.is)) in
    let waits = c.self.inside.waits in
    let more : c.add_pending.new.self.pending ≡ waits.completions.pending + 1 = c.add_pending.ensures.pending ∙ ap (λ (r : Completions). r.pending + 1) c.add_parents.ensures.completions ∙ ap (λ n. n + 1) c.reserve.ensures.pending in
    rw (c.in_default-put_block.ensures.state, c.in_ok-owner.ensures)
    (written s c.args.digest c.args.block.now c.in-Stored.vote none waits.missing.unmet waits.missing.lacking c.add_parents.new.self.missing.unmet c.add_parents.new.self.missing.lacking waits.completions.pending c.add_pending.new.self.pending c.self.invariant.at_rest
    (rw c.get.ensures at c.in_ok-add_parents.ensures.unmet) (rw c.get.ensures at c.in_ok-add_parents.ensures.lacking) more)

pub invariant_of-self : goal.invariant_of-self
invariant_of-self c =
    let waits = c.self.inside.waits in
    rw (c.reserve.ensures.pending)
    (record { at_rest = c.self.invariant.at_rest; frozen = frozen_fewer c.self.inside.held.state waits.missing.lacking waits.completions.fresh.items c.reserve.new.self.fresh.items c.self.inside.generations.blocks c.self.invariant.frozen c.reserve.ensures.kept })

pub invariant_of-self-2 : goal.invariant_of-self-2
invariant_of-self-2 c =
    let s : State = c.self.inside.held.state in
    let d : Digest = c.args.digest in
    let none : get s.blocks d ≡ None = stored_anew c.self.inside.held.bounds c.self.inside.held.state c.args.digest c.args.block.now c.in-Stored.vote (rw (← c.self.view_is) at (sym c.requires ∙ c.in-Stored.is)) in
    let waits = c.self.inside.waits in
    let mid = c.add_parents.new.self.missing.lacking in
    let new = c.arrive.new.self in
    let listed = c.add_pending.new.self.fresh.items in
    let put : c.put_block.new.self.state ≡ with_block s d c.args.block.now c.in-Stored.vote = c.in_default-put_block.ensures.state ∙ ap (λ (x : Block). with_block s d x c.in-Stored.vote) c.in_ok-owner.ensures in
    let same : listed ≡ c.reserve.new.self.fresh.items = ap (λ q. q.items) c.add_pending.ensures.fresh ∙ ap (λ (r : Completions). r.fresh.items) c.add_parents.ensures.completions in
    record {
      at_rest = c.arrive.ensures.at_rest;
      frozen = subst (λ (t : State). AreFrozenExcept t new.missing.lacking new.completions.fresh.items c.self.inside.generations.blocks) (sym put)
          (frozen_arrived s (with_block s d c.args.block.now c.in-Stored.vote) d waits.missing.lacking mid new.missing.lacking waits.completions.fresh.items listed new.completions.fresh.items c.self.inside.generations.blocks
          (block_arrives s d c.args.block.now c.in-Stored.vote none)
          (since_written s d c.args.block.now c.in-Stored.vote none waits.missing.lacking mid c.self.invariant.at_rest.coming_to_rest.promoted (rw c.get.ensures at c.in_ok-add_parents.ensures.lacking))
          (λ x other. get_other s.blocks d c.args.block.now x other) refl c.self.invariant.frozen
          (λ x among ready. subst (λ xs. Contains xs x) (sym same) (c.reserve.ensures.kept x among ready))
          (rw put at c.arrive.ensures.grown));
    }
