use Rattle.nw_generation.proofs.Words.{Digest, Block}
use Rattle.nw_generation.proofs.Merging.{all_merged, none_merged, one_merged, rest_next}
use Rattle.nw_generation.proofs.entries.merged.Goals as goal

pub loop-entry-init : goal.loop-entry-init
loop-entry-init c = rw c.in_ok-both.ensures.items (none_merged c.args.newer.now c.args.older.now c.requires.newer c.requires.older)

pub loop-entry-preserved : goal.loop-entry-preserved
loop-entry-preserved c =
    let e : Digest × Block = c.in-Some.entry.now in
    rw c.in_ok-push.ensures.items
    (one_merged c.args.newer.now c.args.older.now c.loop-entry.both.items c.loop-entry.newer.now c.loop-entry.older.now _ _ e c.loop-entry.invariant
    (rest_next c.loop-entry.newer.now c.loop-entry.older.now e c.in-Some.of_newer c.in-Some.of_older c.in-Some.ensures.next))

pub returns : goal.returns
returns c = (
  c.loop-entry.invariant.ascend,
  all_merged c.args.newer.now c.args.older.now c.loop-entry.both.items c.loop-entry.newer.now c.loop-entry.older.now c.loop-entry.invariant c.in_default.ensures.next.0 c.in_default.ensures.next.1,
)
