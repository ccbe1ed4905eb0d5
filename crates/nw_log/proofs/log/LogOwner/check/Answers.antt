use Rattle.nw_log.proofs.Steps.{may_show, may_check}
use Rattle.nw_log.proofs.log.LogOwner.check.Goals as goal

pub join_seat-requires : goal.join_seat-requires
join_seat-requires g c = may_show _ _ c.self.invariant.0 c.self.inside.seat c.self.invariant.1 c.known.inside.seat c.known.invariant

pub load-requires : goal.load-requires
load-requires g c = let shown = c.join_seat.ensures in may_check _ _ c.self.invariant.0 c.self.inside.seat c.self.invariant.1 c.known.inside.seat c.known.invariant c.join_seat.new.seat shown.0 shown.2
