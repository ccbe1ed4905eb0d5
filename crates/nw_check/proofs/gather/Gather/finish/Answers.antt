use Rattle.nw_check.proofs.Words.{IsTrue}
use Rattle.nw_check.proofs.Gathered.{gathering-valid}
use Rattle.nw_check.proofs.gather.Gather.finish.Goals as goal

pub new-requires-2 : goal.new-requires-2
new-requires-2 g c =
    let so : IsTrue c.reaches_quorum.result = cc in
    let reached = rw (c.get.ensures, c.deref.ensures.value) at (c.reaches_quorum.ensures.reached.0 so) in
    rw (c.in_ok-try_clone.ensures, c.in_ok-new.ensures, c.new-votes.ensures, c.in_ok-from_slice.ensures.items, c.deref-2.ensures.value)
    (gathering-valid g.S.Scheme.accepts _ c.self.invariant reached)
