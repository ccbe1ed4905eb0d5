use Rattle.nw_generation.proofs.Words.{◌≡◌, ◌++◌}
use Rattle.nw_generation.proofs.entries.of_trie.Given as goal

abbrev pub invariant-loop-digest : goal.invariant-loop-digest
invariant-loop-digest g l = l.entries.items ++ l.digest-iterator ≡ l.trie
