use Rattle.nw_trie.proofs.Words.{arith, subst}
use Rattle.nw_trie.specs.Entries.{EachKey}
use Rattle.nw_trie.proofs.Descents.{parted_late}
use Rattle.nw_trie.proofs.tree.descent.EndWay.value_mut.Goals as goal

pub unreachable-requires : goal.unreachable-requires
unreachable-requires g c =
    let parts = c.in-Some.ensures in
    parted_late c.args.digest.now c.in-Some.field-0 0 parts.left parts.right parts.fork (subst (EachKey _) parts.is c.requires.alike) (omega (arith, parts.low))
