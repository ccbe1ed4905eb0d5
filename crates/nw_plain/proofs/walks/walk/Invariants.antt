use Rattle.nw_plain.proofs.Words.{◌≡◌, Some, get, deref}
use Rattle.std.proofs.Common.{map}
use Rattle.nw_plain.proofs.walks.walk.Given as goal

abbrev pub invariant-loop-digest : goal.invariant-loop-digest
invariant-loop-digest l = map (get l.view.blocks) (map deref l.yielded) ≡ map Some l.blocks.items
