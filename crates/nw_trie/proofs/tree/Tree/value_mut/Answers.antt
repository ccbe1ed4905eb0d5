use Rattle.nw_trie.proofs.Words.{refl}
use Rattle.nw_trie.proofs.Splits.{tree_entries}
use Rattle.nw_trie.proofs.Descents.{length_replaced}
use Rattle.nw_trie.proofs.tree.Tree.value_mut.Goals as goal

pub returns : goal.returns
returns g c =
    let entries = tree_entries c.self.inside.link c.args.self.now c.self.view_is c.self.invariant in (
      (refl, λ w. refl),
      record {
        writes_back = tt;
        value = c.value_mut.ensures.value;
        len = λ v. length_replaced c.args.digest.now v c.args.self.now entries.ascending c.requires;
      },
    )
