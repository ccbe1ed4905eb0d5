use Rattle.nw_store.proofs.Words.{committee_of, IsHistoryOf}
use Rattle.nw_store.proofs.Explained.{explained, unanswered}
use Rattle.nw_store.proofs.store.Store.call.Goals as goal

pub returns-clause-answered : goal.returns-clause-answered
returns-clause-answered g c =
    let known : IsHistoryOf g.S.Scheme.accepts g.L.Home.origin _ = record { starts = c.call_locked.ensures.starts; legal = c.call_locked.ensures.legal } in
    explained g.S.Scheme.accepts _ _ _ _ _ (λ done. done.event.reply) (λ done. done.front) c.call_locked.result known c.call_locked.ensures.answered

pub returns-clause-no_step : goal.returns-clause-no_step
returns-clause-no_step g c =
    let known : IsHistoryOf g.S.Scheme.accepts g.L.Home.origin _ = record { starts = c.call_locked.ensures.starts; legal = c.call_locked.ensures.legal } in
    unanswered g.S.Scheme.accepts _ _ c.args.session.now (committee_of c.args.command.now) c.call_locked.result known c.call_locked.ensures.refused
