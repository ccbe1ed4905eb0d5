use Rattle.nw_trie.proofs.Words.{refl, arith}
use Rattle.nw_trie.proofs.Sides.{at_Fork}
use Rattle.nw_trie.proofs.tree.Tree.first_bit.Goals as goal

pub returns-in-Fork : goal.returns-in-Fork
returns-in-Fork g c =
    let fork = at_Fork c.self.view_is c.self.invariant c.in-Fork.is refl in
    record { low = omega arith; left = _; right = _; is = fork.is; fork = fork.fork }
