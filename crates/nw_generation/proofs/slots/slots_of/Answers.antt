use Rattle.nw_generation.proofs.Words.{refl}
use Rattle.nw_generation.proofs.Slotted.{among_more}
use Rattle.nw_generation.proofs.slots.slots_of.Goals as goal

pub loop-entry-preserved : goal.loop-entry-preserved
loop-entry-preserved c =
    rw c.in_ok-push.ensures.items
    (among_more c.loop-entry.slots.items c.args.entries.now c.loop-entry.entry-index c.entry-item.result _ c.loop-entry.invariant c.requires c.loop-entry-test.true c.entry-item.is
    refl c.in_ok-try_clone.ensures)
