use Rattle.std.specs.Prelude.{◌≤◌, take}
use Rattle.nw_dag.specs.Collection.{HasCompleteBelow}
use Rattle.nw_dag.proofs.waits.Waits.complete_below.Given as goal

abbrev pub invariant-loop-digest : goal.invariant-loop-digest
invariant-loop-digest l =
    record {
      counts : HasCompleteBelow l.held.state l.self.missing.lacking l.round (take l.digest-index l.digests) l.count;
      below : l.count ≤ l.digest-index;
    }
