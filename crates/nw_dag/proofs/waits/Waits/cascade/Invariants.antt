use Rattle.std.specs.Prelude.{◌≡◌, ◌+◌, drop, length}
use Rattle.nw_dag.specs.Lacking.{IsReady}
use Rattle.nw_dag.specs.Frozen.{Grows}
use Rattle.nw_dag.specs.AtRest.{IsCascading}
use Rattle.nw_dag.proofs.waits.Waits.cascade.Given as goal

abbrev pub invariant-loop-place : goal.invariant-loop-place
invariant-loop-place l =
    record {
      coming_to_rest : IsCascading l.held.state l.self.missing.unmet l.self.missing.lacking (drop l.place l.self.completions.fresh.items) l.self.completions.pending;
      grown : Grows l.held.state (IsReady l.held.state l.fn.self.missing.lacking) l.fn.self.missing.lacking l.self.missing.lacking l.fn.self.completions.fresh.items l.self.completions.fresh.items;
      most : length l.self.completions.fresh.items + l.self.completions.pending ≡ length l.fn.self.completions.fresh.items + l.fn.self.completions.pending;
    }
