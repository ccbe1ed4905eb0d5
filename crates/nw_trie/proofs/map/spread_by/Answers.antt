use Rattle.nw_trie.proofs.Words.{◌+◌, ap, subst, arith, length, into_iter_items}
use Rattle.nw_trie.specs.Places.{AreAtPlaces, joined}
use Rattle.nw_trie.proofs.Places.{Spread, alike, spread_more}
use Rattle.nw_trie.proofs.map.spread_by.Goals as goal

pub halves-unset-requires : goal.halves-unset-requires
halves-unset-requires g c =
    let so = c.loop-tree.invariant in
    let rest = subst (AreAtPlaces c.args.bits so.next) c.in-Some.ensures.steps.0 so.rest in
    alike c.args.bits so.next c.in-Some.tree rest.0

pub loop-tree-preserved : goal.loop-tree-preserved
loop-tree-preserved g c =
    let so = c.loop-tree.invariant in
    let steps = c.in-Some.ensures.steps.0 in
    let rest = subst (AreAtPlaces c.args.bits so.next) steps so.rest in
    let before = subst (λ left. Spread c.args.bits so.next c.loop-tree.halves.items left (joined c.args.trees.now.items)) steps so.spread in
    let more = spread_more c.args.bits so.next c.loop-tree.halves.items (into_iter_items c.next.new.self) c.in-Some.tree c.halves-unset.result.0 c.halves-unset.result.1 (joined c.args.trees.now.items) before rest.0 c.halves-unset.ensures.entries c.halves-unset.ensures.unset c.halves-unset.ensures.set in
    record {
      can_next = tt;
      is_finite = tt;
      next = so.next + 1;
      rest = rest.1;
      spread = rw (c.push_reserved-in-loop-tree.ensures.items, c.push_reserved.ensures.items) more;
      len = omega (arith, c.push_reserved-in-loop-tree.ensures.len, c.push_reserved.ensures.len, so.len);
      room = omega (arith, c.push_reserved-in-loop-tree.ensures.capacity, c.push_reserved.ensures.capacity, so.room, ap length steps);
    }
