use Rattle.std.specs.Prelude.{◌≡◌, ◌++◌, length, map, take}
use Rattle.std.specs.List.{flat_map}
use Rattle.nw_c.proofs.blocks.making.transactions_of.Given as goal

abbrev pub invariant-loop-length : goal.invariant-loop-length
invariant-loop-length l = (map length l.transactions ≡ take l.length-index l.lengths) × (flat_map (λ t. t) l.transactions ++ l.left ≡ l.bytes)
