use Rattle.nw_causal.proofs.Words.{All, take}
use Rattle.nw_causal.specs.Agreement.{MatchAt}
use Rattle.nw_causal.specs.declared.ancestor.Ancestor.{Ancestor}
use Rattle.nw_causal.proofs.agreement.agree.Given as goal

abbrev pub invariant-loop-ancestor : goal.invariant-loop-ancestor
invariant-loop-ancestor l = All (λ (a : Ancestor). MatchAt l.one.frozen l.other.frozen a.digest.now) (take l.ancestor-index l.ancestor-items)
