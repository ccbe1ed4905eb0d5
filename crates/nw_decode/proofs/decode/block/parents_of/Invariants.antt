use Rattle.nw_decode.proofs.Words.{◌≡◌, ◌+◌, ◌*◌, length, parent_bytes, IsRef, AreBuilt}
use Rattle.nw_decode.proofs.decode.block.parents_of.Given as goal

-- The parents so far are built, and the text of the others is left.
abbrev pub invariant-loop : goal.invariant-loop
invariant-loop l = record {
  built : AreBuilt parent_bytes IsRef l.text l.parents.items l.rest;
  left : length l.rest + 34 * l.counter ≡ 34 * l.count;
}
