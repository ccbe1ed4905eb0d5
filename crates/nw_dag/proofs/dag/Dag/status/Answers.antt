use Rattle.nw_dag.proofs.Words.{◌≡◌, ◌-◌, length, subst, arith, All-contains, digest_cmp, State, IsComplete, HasCount, IsWanted, wanted_cmp}
use Rattle.nw_dag.specs.Lacking.{IsReady}
use Rattle.nw_dag.proofs.Complete.{ready_complete}
use Rattle.nw_dag.proofs.Missing.{wanted_count}
use Rattle.nw_dag.proofs.Sorted.{count_of}
use Rattle.nw_dag.proofs.dag.Dag.status.Goals as goal

pub returns : goal.returns
returns c =
    let s : State = c.self.inside.held.state in
    let waits = c.self.inside.waits in
    let inv = c.self.invariant.at_rest.coming_to_rest in
    let same = ready_complete s waits.missing.lacking inv.promoted c.certificates.ensures.sound in
    let listed = c.self.invariant.at_rest.complete in
    let counts : length listed ≡ c.blocks-3.result - c.self.inside.waits.completions.pending = omega (arith, c.self.invariant.at_rest.counts, c.blocks-3.ensures) in
    let complete : HasCount digest_cmp (IsComplete s) (c.blocks-3.result - c.self.inside.waits.completions.pending) =
    subst (HasCount digest_cmp (IsComplete s)) counts (count_of (IsComplete s) listed inv.listed.once (λ x. (
      λ among. (same x).0 (All-contains (IsReady s waits.missing.lacking) listed x inv.listed.ready among),
      λ whole. inv.all x ((same x).1 whole),
    ))) in
    let wanted : HasCount wanted_cmp (IsWanted s) c.count.result = wanted_count s waits.missing.unmet c.count.result inv.standing c.count.ensures in
    rw (← c.self.view_is) (record { floor = c.floor.ensures; blocks = c.blocks-2.ensures; certificates = c.certificates.ensures.count; complete = complete; wanted = wanted })
