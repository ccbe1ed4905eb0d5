use Rattle.nw_trie.proofs.After.{from_first}
use Rattle.nw_trie.proofs.iter.Iter.new.Goals as goal

pub invariant_of-result : goal.invariant_of-result
invariant_of-result g c = (from_first c.args.tree.now c.first.result c.first.ensures.first c.first.ensures.entries).1

pub returns-clause-all : goal.returns-clause-all
returns-clause-all g c = (from_first c.args.tree.now c.first.result c.first.ensures.first c.first.ensures.entries).0
