use Rattle.nw_log.proofs.Steps.{may_copy}
use Rattle.nw_log.proofs.log.LogOwner.check_in_place.Goals as goal

pub split_seat-copy-requires : goal.split_seat-copy-requires
split_seat-copy-requires g c = may_copy _ _ c.self.invariant.0 c.self.inside.seat c.self.invariant.1 c.known.inside.seat c.known.invariant
