use Rattle.nw_trie.proofs.Splits.{leaf_entries}
use Rattle.nw_trie.proofs.tree.Tree.leaf.Goals as goal

pub invariant_of-result : goal.invariant_of-result
invariant_of-result g c = leaf_entries c.in-Ok-new.leaf.value c.args.digest c.args.value c.note_bytes.ensures c.in-Ok-new.ensures.ok
