use Rattle.nw_dag.proofs.Words.{IsMet}
use Rattle.std.specs.Prelude.{◌≡◌, ◌+◌, take}
use Rattle.nw_dag.specs.Lacking.{AreSplit, IsReady, IsNamedAmong}
use Rattle.nw_dag.specs.Changes.{AreSameExcept, LacksAlso}
use Rattle.nw_dag.proofs.waits.Waits.add_each.Given as goal

abbrev pub invariant-loop-reference : goal.invariant-loop-reference
invariant-loop-reference l =
    record {
      unmet : LacksAlso (IsMet l.held.state) (IsNamedAmong (l.round + 1) (take l.reference-index l.references)) l.holder l.fn.self.missing.unmet l.self.missing.unmet;
      lacking : LacksAlso (λ w. IsMet l.held.state w × IsReady l.held.state l.fn.self.missing.lacking w.digest) (IsNamedAmong (l.round + 1) (take l.reference-index l.references)) l.holder l.fn.self.missing.lacking l.self.missing.lacking;
      split : AreSplit l.held.state l.self.missing.unmet l.self.missing.lacking;
      same_unmet : AreSameExcept l.holder l.fn.self.missing.unmet l.self.missing.unmet;
      same_lacking : AreSameExcept l.holder l.fn.self.missing.lacking l.self.missing.lacking;
      completions : l.self.completions ≡ l.fn.self.completions;
    }
