use Rattle.nw_shared_store.specs.Rule.{Returns, freed}
use Rattle.nw_shared_store.proofs.Steps.{returns}
use Rattle.nw_shared_store.proofs.Seated.{may_end}
use Rattle.nw_shared_store.proofs.lock.give_back.Goals as goal

pub store-requires : goal.store-requires
store-requires g c =
    let lock = c.args.lock.now.shared in
    let slots = lock.table_id.slots in
    let seat = c.args.seat.now in
    let t = c.requires.same in
    may_end g.S.Scheme.accepts lock.key slots seat.id Returns _ seat.me c.requires.lock.same c.requires.lock.words t.1 (returns g.S.Scheme.accepts lock.key slots seat.id t.0 (freed seat.me.0))

pub returns-clause-freed : goal.returns-clause-freed
returns-clause-freed g c = c.store.ensures.2.1
