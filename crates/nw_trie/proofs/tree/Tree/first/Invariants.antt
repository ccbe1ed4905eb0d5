use Rattle.nw_trie.proofs.Words.{◌≡◌, length}
use Rattle.nw_trie.specs.After.{first_entry}
use Rattle.nw_trie.proofs.tree.Tree.first.Given as goal

abbrev pub invariant-loop-tree : goal.invariant-loop-tree
invariant-loop-tree g l = first_entry l.tree ≡ first_entry l.self

abbrev pub decreases-loop-tree : goal.decreases-loop-tree
decreases-loop-tree g l = length l.tree
