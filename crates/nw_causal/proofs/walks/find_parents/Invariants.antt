use Rattle.nw_causal.proofs.Words.{take, IsNamed}
use Rattle.nw_causal.specs.Looked.{Gains, IsLevel}
use Rattle.nw_causal.proofs.walks.find_parents.Given as goal

abbrev pub invariant-loop-reference : goal.invariant-loop-reference
invariant-loop-reference l = record {
  level : IsLevel l.view.frozen l.round l.parents.items;
  gains : Gains (IsNamed (take l.reference-index l.references)) l.fn.parents.items l.parents.items;
}
