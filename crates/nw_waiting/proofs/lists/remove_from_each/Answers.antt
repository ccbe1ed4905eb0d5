use Rattle.nw_waiting.proofs.Words.{get}
use Rattle.nw_waiting.specs.Lists.{list_of}
use Rattle.nw_waiting.proofs.Members.{ascending_removed, each_more, once_removed}
use Rattle.nw_waiting.proofs.lists.remove_from_each.Goals as goal

pub loop-key-preserved : goal.loop-key-preserved
loop-key-preserved g c = (
  each_more g.met.K.Ord.total g.met.V.Ord.total (λ q. list_of (λ v. v.items) (get g.K.Ord.cmp c.args.lists.now q)) (λ q. list_of (λ v. v.items) (get g.K.Ord.cmp c.loop-key.lists q)) (λ q. list_of (λ v. v.items) (get g.K.Ord.cmp c.remove.new.lists q))
      c.args.keys.now c.loop-key.key-index c.key-item.result c.args.value.now c.loop-key-test.true c.key-item.is c.remove.ensures.removed c.loop-key.invariant.0,
  once_removed g.K.Ord.cmp g.met.V.Ord.total (λ q. list_of (λ v. v.items) (get g.K.Ord.cmp c.loop-key.lists q)) (λ q. list_of (λ v. v.items) (get g.K.Ord.cmp c.remove.new.lists q)) c.key-item.result c.args.value.now c.remove.ensures.removed c.loop-key.invariant.1,
  (λ ascends. ascending_removed g.K.Ord.cmp g.met.V.Ord.total (λ q. list_of (λ v. v.items) (get g.K.Ord.cmp c.loop-key.lists q)) (λ q. list_of (λ v. v.items) (get g.K.Ord.cmp c.remove.new.lists q)) c.key-item.result c.args.value.now c.remove.ensures.removed (c.loop-key.invariant.2 ascends)),
  (λ filled. c.remove.ensures.filled (c.loop-key.invariant.3 filled)),
  (λ ordered. c.remove.ensures.ordered),
)
