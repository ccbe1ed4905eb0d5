use Rattle.std.proofs.Common.{◌≡◌, ◌≤◌, ◌+◌, ◌++◌, length, map, take}
use Rattle.std.specs.List.{flat_map}
use Rattle.nw_c.proofs.blocks.transactions.copy_all.Given as goal

abbrev pub invariant-loop-transaction : goal.invariant-loop-transaction
invariant-loop-transaction l =
    (take l.start l.bytes ++ flat_map (λ t. t) l.transaction-iterator ≡ flat_map (λ t. t) l.transactions)
    × (take l.index l.lengths ++ map length l.transaction-iterator ≡ map length l.transactions)
    × (l.start + length (flat_map (λ t. t) l.transaction-iterator) ≤ length l.bytes)
    × (l.index + length l.transaction-iterator ≤ length l.lengths)
