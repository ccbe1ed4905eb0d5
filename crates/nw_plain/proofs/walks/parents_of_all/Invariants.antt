use Rattle.nw_plain.proofs.Words.{take, [], from_entries, Finds}
use Rattle.nw_model.specs.Search.{IsParentOfAny}
use Rattle.nw_plain.proofs.walks.parents_of_all.Given as goal

abbrev pub invariant-loop-digest : goal.invariant-loop-digest
invariant-loop-digest l =
    Finds l.view (IsParentOfAny l.view (take l.digest-index l.frontier)) (from_entries l.fn.found.entries) (from_entries l.found.entries) [] l.parents.items
