use Rattle.nw_waiting.proofs.Words.{◌≡◌, drop}
use Rattle.nw_waiting.proofs.Parted.{AreLeft}
use Rattle.nw_waiting.proofs.parents.MissingParents.drop_holder.Given as goal

-- no wanted parent is gone, and each parent read so far is gone or wanted
abbrev pub invariant-loop-wanted : goal.invariant-loop-wanted
invariant-loop-wanted g l = (l.self-inside.lacking ≡ l.initial.self-inside.lacking) × AreLeft l.initial.self-inside.lacking l.initial.self-inside.unmet.keys l.self-inside.unmet.keys (drop l.wanted-index l.wanted-items)
