use Rattle.nw_shared_store.specs.Rule.{Reads, freed}
use Rattle.nw_shared_store.proofs.Steps.{reads}
use Rattle.nw_shared_store.proofs.Seated.{may_end}
use Rattle.nw_shared_store.proofs.lock.end_reading.Goals as goal

pub store-requires : goal.store-requires
store-requires g c =
    let lock = c.args.lock.now.shared in
    let slots = lock.table_id.slots in
    let seat = c.args.seat.now in
    let t = c.requires.same in
    may_end g.S.Scheme.accepts lock.key slots seat.id Reads _ seat.me c.requires.lock.same c.requires.lock.words t.1 (reads g.S.Scheme.accepts lock.key slots seat.id t.0 (freed seat.me.0) t.2)

pub returns-clause-read : goal.returns-clause-read
returns-clause-read g c = c.store.ensures.2.1
