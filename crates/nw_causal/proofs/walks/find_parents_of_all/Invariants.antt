use Rattle.nw_causal.proofs.Words.{take, IsParentOfAny}
use Rattle.nw_causal.specs.Looked.{Gains, IsLevel, digests}
use Rattle.nw_causal.proofs.walks.find_parents_of_all.Given as goal

abbrev pub invariant-loop-child : goal.invariant-loop-child
invariant-loop-child l = record {
  level : IsLevel l.view.frozen l.round l.parents.items;
  gains : Gains (IsParentOfAny l.view.frozen (take l.child-index (digests l.level))) l.fn.parents.items l.parents.items;
}
