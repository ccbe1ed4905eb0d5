use Rattle.nw_dag.proofs.Words.{◌≡◌, take}
use Rattle.nw_dag.proofs.Looks.{AreLooksFor, authors_of}
use Rattle.nw_dag.proofs.dag.Dag.look_round.Given as goal

-- the authors read so far, each with its look
abbrev pub invariant-loop-author : goal.invariant-loop-author
invariant-loop-author l = record {
  authors : authors_of l.looks.items ≡ take l.author-index l.author-items;
  looks : AreLooksFor l.self.state l.round l.looks.items;
}
