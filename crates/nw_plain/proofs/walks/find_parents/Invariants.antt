use Rattle.nw_plain.proofs.Words.{take, from_entries, Finds}
use Rattle.nw_model.specs.Search.{IsNamed}
use Rattle.nw_plain.proofs.walks.find_parents.Given as goal

abbrev pub invariant-loop-reference : goal.invariant-loop-reference
invariant-loop-reference l =
    Finds l.view (IsNamed (take l.reference-index l.reference-items)) (from_entries l.fn.found.entries) (from_entries l.found.entries) l.fn.parents.items l.parents.items
