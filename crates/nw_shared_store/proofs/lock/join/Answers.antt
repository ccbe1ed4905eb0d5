use Rattle.nw_shared_store.proofs.Words.{ap, subst, Me}
use Rattle.nw_shared_store.specs.Locked.{Current}
use Rattle.nw_shared_store.specs.Rule.{SeatView, IsJoined, Joins, holder_of}
use Rattle.nw_shared_store.proofs.Joined.{joins}
use Rattle.nw_shared_store.proofs.Fitting.{with_holds}
use Rattle.nw_shared_store.proofs.Seated.{may_end}
use Rattle.nw_shared_store.proofs.lock.join.Goals as goal

pub store-requires : goal.store-requires
store-requires g c =
    let lock = c.args.lock.now.shared in
    let slots = lock.table_id.slots in
    let seat = c.args.seat.now in
    let t = c.requires.joins in
    may_end g.S.Scheme.accepts lock.key slots seat.id (Joins g.S.Scheme.accepts) _ seat.me c.requires.lock.same c.requires.lock.words t.5 (joins g.S.Scheme.accepts lock.key slots seat.id t.0 t.1 t.2 t.3 t.4)

pub returns-clause-joined : goal.returns-clause-joined
returns-clause-joined g c = λ before given v is.
    let told = subst (λ (m : Me Current SeatView). IsJoined g.S.Scheme.accepts before given m.0 c.store.new.seat.me) is (c.store.ensures.2.1 before given (ap (λ (m : Me Current SeatView). m.0.holds) is) (ap (λ (m : Me Current SeatView). m.1) is)) in
    (with_holds g.S.Scheme.accepts given (holder_of before v) v.holds v.right told.0.count told.0, told.1, told.2)
