use Rattle.nw_ed25519.proofs.Combs.{doubled_none, doubled_next}
use Rattle.nw_ed25519.proofs.comb.doubled_times.Goals as goal

pub loop-done-init : goal.loop-done-init
loop-done-init c = doubled_none c.args.point

pub loop-done-preserved : goal.loop-done-preserved
loop-done-preserved c = doubled_next c.loop-done._done c.args.point c.loop-done.multiple c.doubled-multiple.result c.loop-done.invariant c.doubled-multiple.ensures
