use Rattle.nw_store.proofs.Words.{◌<◌, ap, arith, Story}
use Rattle.nw_store.proofs.Kept.{kept_made}
use Rattle.nw_store.proofs.locked.session_locked.Goals as goal

pub invariant_of-locked : goal.invariant_of-locked
invariant_of-locked g c =
    let history = ap (λ (s : Story). s.limits.sessions) c.history.ensures.history in
    let limits = ap (λ l. l.sessions) c.limits.ensures.limits in
    let made = c.from.ensures in
    let below = c.if-from-limits.false in
    let room : c.locked.inside.made < c.locked.inside.book.limits.sessions = omega (arith, history, limits, made, below) in
    (c.locked.invariant.0, kept_made g.S.Scheme.accepts _ _ _ _ _ _ _ _ _ c.locked.invariant.1 room c.split_off.ensures.parts_left c.split_off.ensures.amount_left c.known.ensures.same, c.locked.invariant.2)
