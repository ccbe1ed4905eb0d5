use Rattle.nw_decode.proofs.Words.{◌-◌, ◌≤◌}
use Rattle.nw_decode.specs.Faults.{at_transactions, Reaches}
use Rattle.nw_decode.proofs.decode.block.after_transactions.Given as goal

-- The transactions so far lead to the length of the next one.
abbrev pub invariant-loop : goal.invariant-loop
invariant-loop l = (l.size ≤ 1048576) × Reaches (at_transactions l.count l.fn.size) l.text (at_transactions (l.count - l.counter) l.size) l.rest
