use Rattle.nw_dag.proofs.Words.{ap, sym, subst, State, IsSound, Frozen, Shows}
use Rattle.nw_generation.specs.Seen.{Seen}
use Rattle.nw_dag.proofs.Freezing.{closed, shown}
use Rattle.nw_dag.proofs.dag.Dag.freeze_for.Goals as goal

pub view-requires : goal.view-requires
view-requires c =
    let s : State = c.self.inside.held.state in
    let waits = c.self.inside.waits in
    let v : Frozen = record { blocks = c.freeze.new.generations.blocks; floor = c.floor.result } in
    let sound : IsSound s = rw c.self.view_is c.refusal.ensures.sound in
    record { closed = closed s v sound (shown s waits.missing.unmet waits.missing.lacking waits.completions.pending v sound c.self.invariant.at_rest c.floor.ensures c.in_ok-freeze.ensures.all) }

pub returns-clause-answer : goal.returns-clause-answer
returns-clause-answer c =
    let s : State = c.self.inside.held.state in
    let waits = c.self.inside.waits in
    let v : Frozen = record { blocks = c.freeze.new.generations.blocks; floor = c.floor.result } in
    let sound : IsSound s = rw c.self.view_is c.refusal.ensures.sound in
    let shows : Shows v s = shown s waits.missing.unmet waits.missing.lacking waits.completions.pending v sound c.self.invariant.at_rest c.floor.ensures c.in_ok-freeze.ensures.all in
    (c.in_default.ensures.why, rw (← c.self.view_is) (subst (λ (x : Frozen). Shows x s) (sym (ap (λ (v : Seen). v.frozen) c.in_ok-view.ensures)) shows))
