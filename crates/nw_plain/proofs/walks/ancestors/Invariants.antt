use Rattle.nw_plain.proofs.Words.{from_entries}
use Rattle.nw_model.proofs.Ancestors.{Explores}
use Rattle.nw_plain.proofs.walks.ancestors.Given as goal

abbrev pub invariant-loop : goal.invariant-loop
invariant-loop l = Explores l.view l.fn.digest (from_entries l.found.entries) l.frontier.items l.counter l.end
