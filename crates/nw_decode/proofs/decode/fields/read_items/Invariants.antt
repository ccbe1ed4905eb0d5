use Rattle.nw_decode.proofs.Words.{ℕ, ◌+◌, ◌-◌, List, Option, None}
use Rattle.nw_decode.specs.Faults.{Stage, Reaches}
use Rattle.nw_decode.specs.Parts.{ItemsAt, AreItems}
use Rattle.nw_decode.proofs.decode.fields.read_items.Given as goal

-- The items so far have their bytes, and lead to the next one.
abbrev pub invariant-loop : goal.invariant-loop
invariant-loop g l = record {
  lie : (items : List ℕ) × ItemsAt (2 + g.row.N) l.counter l.text items l.rest;
  lead : (at : ℕ → Option ℕ → Stage) (inside : ℕ → ℕ → Stage) → AreItems g.row.N l.fn.disorder at inside → Reaches (at l.count None) l.text (at (l.count - l.counter) l.before) l.rest;
}
