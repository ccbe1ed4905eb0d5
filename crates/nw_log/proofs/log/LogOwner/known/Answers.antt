use Rattle.nw_log.proofs.Steps.{may_know}
use Rattle.nw_log.proofs.log.LogOwner.known.Goals as goal

pub split_seat-known-requires : goal.split_seat-known-requires
split_seat-known-requires g c = may_know _ _ c.self.invariant.0 c.self.inside.seat c.self.invariant.1
