use Rattle.nw_ed25519.proofs.Words.{◌≡◌}
use Rattle.nw_ed25519.specs.Comb.{doubled_times}
use Rattle.nw_ed25519.proofs.comb.doubled_times.Given as goal

abbrev pub invariant-loop-done : goal.invariant-loop-done
invariant-loop-done l = l.multiple ≡ doubled_times l._done l.fn.point
