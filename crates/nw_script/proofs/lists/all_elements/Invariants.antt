use Rattle.std.proofs.Common.{map, take}
use Rattle.nw_script.specs.List.{AreElements}
use Rattle.nw_script.proofs.lists.all_elements.Given as goal

-- the elements so far are those of the parts so far
abbrev pub invariant-loop-part : goal.invariant-loop-part
invariant-loop-part g l = AreElements g.F.Fn l.element (take l.part-index (map (λ part. part.now) l.parts)) l.elements.items
