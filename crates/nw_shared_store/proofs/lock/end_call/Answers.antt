use Rattle.nw_shared_store.proofs.Words.{[], ◌∙◌, ap, Me}
use Rattle.nw_shared_store.specs.Locked.{Current}
use Rattle.nw_shared_store.specs.Rule.{SeatView, Releases, answered, with_journal}
use Rattle.nw_shared_store.proofs.Steps.{releases}
use Rattle.nw_shared_store.proofs.Seated.{may_end}
use Rattle.nw_shared_store.proofs.lock.end_call.Goals as goal

pub store-requires : goal.store-requires
store-requires g c =
    let lock = c.args.lock.now.shared in
    let slots = lock.table_id.slots in
    let seat = c.args.seat.now in
    let t = c.requires.called in
    may_end g.S.Scheme.accepts lock.key slots seat.id Releases _ seat.me c.requires.lock.same c.requires.lock.words t.6 (releases g.S.Scheme.accepts lock.key slots seat.id t.0 t.1 t.2 t.3 t.4 t.5)

pub returns-clause-released : goal.returns-clause-released
returns-clause-released g c = λ before called v is.
    c.store.ensures.2.1 before called (ap (λ (m : Me Current SeatView). m.0.holds) is) (ap (λ (m : Me Current SeatView). m.1) is)
    ∙ ap (λ (m : Me Current SeatView). (with_journal m.0 (answered before.history called.history m.0.journal), [])) is
