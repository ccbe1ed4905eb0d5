use Rattle.std.proofs.Common.{◌≡◌, ◌*◌, drop}
use Rattle.std.specs.Cmp.Lexicographic.{slice_cmp}
use Rattle.std.specs.Ordering.{nat_cmp}
use Rattle.nw_digest.proofs.digest.order.Given as goal

abbrev pub invariant-loop-index : goal.invariant-loop-index
invariant-loop-index l = slice_cmp nat_cmp l.these l.those ≡ slice_cmp nat_cmp (drop (8 * l.index) l.these) (drop (8 * l.index) l.those)
