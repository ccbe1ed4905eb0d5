use Rattle.std.proofs.Common.{◌≡◌, ◌<◌, ℕ, get_or}
use Rattle.std.specs.Bool.{MatchBool}
use Rattle.nw_digest.proofs.digest.DigestPartialEq.eq.Given as goal

abbrev pub invariant-loop-index : goal.invariant-loop-index
invariant-loop-index l = MatchBool l.same ((k : ℕ) → k < l.index → get_or l.self.0 k 0 ≡ get_or l.other.0 k 0) (l.self.0 ≡ l.other.0 → ⊥)
