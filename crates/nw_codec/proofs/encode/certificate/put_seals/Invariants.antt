use Rattle.nw_codec.proofs.Words.{◌≡◌, ◌≤◌, ◌+◌, ◌*◌, ◌++◌, ℕ, List, take, All, flat_map}
use Rattle.nw_codec.specs.Grammar.{seal_bytes}
use Rattle.nw_codec.specs.Typed.{IsSeal}
use Rattle.nw_codec.proofs.encode.certificate.put_seals.Given as goal

-- the seals so far are appended
abbrev pub invariant-loop-seal : goal.invariant-loop-seal
invariant-loop-seal g l = record {
  text : (before text : List ℕ) → g.S.Sink.holds l.fn.sink before text → g.S.Sink.holds l.sink before (text ++ flat_map seal_bytes (take l.seal-index l.seals));
  room : g.S.Sink.room l.fn.sink ≤ g.S.Sink.room l.sink + 66 * l.seal-index;
  place : g.S.Sink.place l.sink ≡ g.S.Sink.place l.fn.sink;
  typed : All IsSeal (take l.seal-index l.seals);
}
