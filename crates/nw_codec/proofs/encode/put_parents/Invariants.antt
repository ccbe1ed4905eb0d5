use Rattle.nw_codec.proofs.Words.{◌≡◌, ◌≤◌, ◌+◌, ◌*◌, ◌++◌, ℕ, List, take, All, flat_map}
use Rattle.nw_codec.specs.Grammar.{parent_bytes}
use Rattle.nw_codec.specs.Typed.{IsRef}
use Rattle.nw_codec.proofs.encode.put_parents.Given as goal

-- the parents so far are appended
abbrev pub invariant-loop-parent : goal.invariant-loop-parent
invariant-loop-parent g l = record {
  text : (before text : List ℕ) → g.S.Sink.holds l.fn.sink before text → g.S.Sink.holds l.sink before (text ++ flat_map parent_bytes (take l.parent-index l.parents));
  room : g.S.Sink.room l.fn.sink ≤ g.S.Sink.room l.sink + 34 * l.parent-index;
  place : g.S.Sink.place l.sink ≡ g.S.Sink.place l.fn.sink;
  typed : All IsRef (take l.parent-index l.parents);
}
