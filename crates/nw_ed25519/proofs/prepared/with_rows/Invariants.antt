use Rattle.nw_ed25519.proofs.Words.{◌≡◌, ◌/◌, ◌^◌, point_of, Point}
use Rattle.nw_ed25519.specs.Comb.{rows, with_rows}
use Rattle.nw_ed25519.proofs.prepared.with_rows.Given as goal

abbrev pub invariant-loop-row : goal.invariant-loop-row
invariant-loop-row l =
    (p : Point) → l.comb.entries.items ≡ rows (2 ^ l.comb.bits / 16) 16 p → point_of l.partial ≡ with_rows l.comb.bits l.row l.shift l.number (point_of l.fn.start) p
