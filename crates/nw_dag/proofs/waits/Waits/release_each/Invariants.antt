use Rattle.std.specs.Prelude.{◌≡◌, ◌+◌, take, length}
use Rattle.nw_dag.specs.Changes.{AppendsThose}
use Rattle.nw_dag.specs.Collection.{AreReleased, StandsButLacks}
use Rattle.nw_dag.proofs.waits.Waits.release_each.Given as goal

abbrev pub invariant-loop-holder : goal.invariant-loop-holder
invariant-loop-holder l =
    record {
      unmet : AreReleased (take l.holder-index l.holders) l.fn.self.missing.unmet l.self.missing.unmet;
      lacking : AreReleased (take l.holder-index l.holders) l.fn.self.missing.lacking l.self.missing.lacking;
      added : AppendsThose (StandsButLacks l.held.state l.fn.self.missing.lacking) (take l.holder-index l.holders) l.fn.self.completions.fresh.items l.self.completions.fresh.items;
      most : length l.self.completions.fresh.items + l.self.completions.pending ≡ length l.fn.self.completions.fresh.items + l.fn.self.completions.pending;
    }
