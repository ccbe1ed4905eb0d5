use Rattle.nw_log.proofs.Steps.{may_append}
use Rattle.nw_log.proofs.log.LogOwner.append.Goals as goal

pub compare_exchange_with-requires : goal.compare_exchange_with-requires
compare_exchange_with-requires g c = may_append _ _ c.self.invariant.0 c.self.inside.seat c.self.invariant.1 c.args.event.now
