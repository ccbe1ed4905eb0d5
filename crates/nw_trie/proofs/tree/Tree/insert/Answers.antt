use Rattle.nw_trie.proofs.Words.{refl, sym}
use Rattle.nw_trie.proofs.Splits.{absent_branch}
use Rattle.nw_trie.proofs.tree.Tree.insert.Goals as goal

pub returns-in_default-clause-absent : goal.returns-in_default-clause-absent
returns-in_default-clause-absent g c = absent_branch c.args.digest c.in_Some-bit.bit c.args.self.now c.args.self.now refl c.in_Some-bit.ensures

pub returns-in-Err-clause-absent : goal.returns-in-Err-clause-absent
returns-in-Err-clause-absent g c = (absent_branch c.args.digest c.in_Some-bit.bit c.args.self.now c.args.self.now refl c.in_Some-bit.ensures)

pub returns-in-Ok-clause-old : goal.returns-in-Ok-clause-old
returns-in-Ok-clause-old g c = sym (absent_branch c.args.digest c.in_Some-bit.bit c.args.self.now c.args.self.now refl c.in_Some-bit.ensures)
