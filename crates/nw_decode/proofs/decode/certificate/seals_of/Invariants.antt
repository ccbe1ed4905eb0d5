use Rattle.nw_decode.proofs.Words.{◌≡◌, ◌+◌, ◌*◌, length, seal_bytes, IsSeal, AreBuilt}
use Rattle.nw_decode.proofs.decode.certificate.seals_of.Given as goal

-- The seals so far are built, and the text of the others is left.
abbrev pub invariant-loop : goal.invariant-loop
invariant-loop l = record {
  built : AreBuilt seal_bytes IsSeal l.text l.seals.items l.rest;
  left : length l.rest + 66 * l.counter ≡ 66 * l.count;
}
