use Rattle.nw_shared_store.specs.Rule.{Enrols}
use Rattle.nw_shared_store.proofs.Steps.{enrols}
use Rattle.nw_shared_store.proofs.Seated.{may_end}
use Rattle.nw_shared_store.proofs.lock.end_enrolment.Goals as goal

pub store-requires : goal.store-requires
store-requires g c =
    let lock = c.args.lock.now.shared in
    let slots = lock.table_id.slots in
    let seat = c.args.seat.now in
    let t = c.requires.made in
    may_end g.S.Scheme.accepts lock.key slots seat.id (Enrols g.S.Scheme.accepts) _ seat.me c.requires.lock.same c.requires.lock.words t.3 (enrols g.S.Scheme.accepts lock.key slots seat.id t.0 t.1 t.2 t.4)

pub returns-clause-enrolled : goal.returns-clause-enrolled
returns-clause-enrolled g c = c.store.ensures.2.1
