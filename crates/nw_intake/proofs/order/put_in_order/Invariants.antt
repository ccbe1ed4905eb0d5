use Rattle.std.proofs.Common.{◌≡◌, ◌<◌, ◌++◌, List, length, drop}
use Rattle.nw_intake.specs.Answers.{IsDealt, IsDealtFrom}
use Rattle.nw_intake.proofs.order.put_in_order.Given as goal

abbrev pub invariant-loop-place : goal.invariant-loop-place
invariant-loop-place g l =
    (length l.shares.items ≡ l.workers) × (0 < l.workers)
    × ((whole : List g.row.T.Denot) → IsDealt whole l.count l.fn.shares.items → IsDealtFrom l.place (drop l.place whole) l.shares.items × (l.all.items ++ drop l.place whole ≡ whole))
