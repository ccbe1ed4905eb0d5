use Rattle.std.proofs.Common.{◌≡◌, length}
use Rattle.nw_intake.specs.Promised.{ArePromised}
use Rattle.nw_intake.proofs.threads.start_all.Given as goal

abbrev pub invariant-loop-worker : goal.invariant-loop-worker
invariant-loop-worker g l = (length l.handles.items ≡ l.worker) × ArePromised l.committee l.texts l.gate l.workers l.handles.items
