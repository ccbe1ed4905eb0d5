use Rattle.std.specs.Prelude.{◌≡◌, ◌+◌, take, length}
use Rattle.nw_dag.specs.Lacking.{IsReady}
use Rattle.nw_dag.specs.Changes.{AppendsThose}
use Rattle.nw_dag.proofs.waits.Waits.add_ready.Given as goal

abbrev pub invariant-loop-digest : goal.invariant-loop-digest
invariant-loop-digest l =
    record {
      unmet : l.self.missing.unmet ≡ l.fn.self.missing.unmet;
      lacking : l.self.missing.lacking ≡ l.fn.self.missing.lacking;
      added : AppendsThose (IsReady l.held.state l.fn.self.missing.lacking) (take l.digest-index l.digests) l.fn.self.completions.fresh.items l.self.completions.fresh.items;
      most : length l.self.completions.fresh.items + l.self.completions.pending ≡ length l.fn.self.completions.fresh.items + l.fn.self.completions.pending;
    }
