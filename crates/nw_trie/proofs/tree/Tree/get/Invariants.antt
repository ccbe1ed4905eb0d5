use Rattle.nw_trie.proofs.Words.{◌≡◌, length, lookup, is_at, digest_cmp}
use Rattle.nw_trie.proofs.tree.Tree.get.Given as goal

abbrev pub invariant-loop-tree : goal.invariant-loop-tree
invariant-loop-tree g l = lookup (is_at (digest_cmp l.digest)) l.tree ≡ lookup (is_at (digest_cmp l.digest)) l.self

abbrev pub decreases-loop-tree : goal.decreases-loop-tree
decreases-loop-tree g l = length l.tree
