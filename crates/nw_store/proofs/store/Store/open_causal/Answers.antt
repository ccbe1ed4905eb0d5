use Rattle.nw_store.proofs.Words.{front_of, reply_of, IsHistoryOf}
use Rattle.std.proofs.Common.{None}
use Rattle.nw_store.proofs.Explained.{explained, unanswered}
use Rattle.nw_store.proofs.store.Store.open_causal.Goals as goal

pub returns-clause-answered : goal.returns-clause-answered
returns-clause-answered g c =
    let known : IsHistoryOf g.S.Scheme.accepts g.L.Home.origin _ = record { starts = c.open_locked.ensures.starts; legal = c.open_locked.ensures.legal } in
    explained g.S.Scheme.accepts _ _ _ _ _ reply_of front_of c.open_locked.result known c.open_locked.ensures.answered

pub returns-clause-no_step : goal.returns-clause-no_step
returns-clause-no_step g c =
    let known : IsHistoryOf g.S.Scheme.accepts g.L.Home.origin _ = record { starts = c.open_locked.ensures.starts; legal = c.open_locked.ensures.legal } in
    unanswered g.S.Scheme.accepts _ _ c.args.session.now None c.open_locked.result known c.open_locked.ensures.refused
