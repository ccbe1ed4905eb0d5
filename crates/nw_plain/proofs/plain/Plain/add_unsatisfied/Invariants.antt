use Rattle.nw_plain.proofs.Words.{take, wanted_cmp}
use Rattle.std.specs.List.Sorted.{IsStrictlySortedBy}
use Rattle.nw_plain.specs.Added.{IsUnionWith, NamesMissing}
use Rattle.nw_plain.proofs.Wanting.{Of}
use Rattle.nw_plain.proofs.plain.Plain.add_unsatisfied.Given as goal

abbrev pub invariant-loop-reference : goal.invariant-loop-reference
invariant-loop-reference l =
    IsUnionWith (Of (NamesMissing l.self.state l.block.round) (take l.reference-index l.reference-items)) l.fn.wanted.keys l.wanted.keys
    × (IsStrictlySortedBy wanted_cmp l.fn.wanted.keys → IsStrictlySortedBy wanted_cmp l.wanted.keys)
