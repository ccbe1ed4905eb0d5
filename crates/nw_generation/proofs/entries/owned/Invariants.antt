use Rattle.nw_generation.proofs.Words.{◌≡◌, take, filter, nat_le, Digest, Block}
use Rattle.nw_generation.proofs.entries.owned.Given as goal

abbrev pub invariant-loop-lent : goal.invariant-loop-lent
invariant-loop-lent l = l.kept.items ≡ filter (λ (e : Digest × Block). nat_le l.round e.1.round) (take l.lent-index l.entries)
