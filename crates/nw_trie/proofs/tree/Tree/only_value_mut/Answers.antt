use Rattle.nw_trie.proofs.Words.{◌∙◌, refl, ap}
use Rattle.nw_trie.proofs.Grafts.{at_leaf}
use Rattle.nw_trie.proofs.tree.Tree.only_value_mut.Goals as goal

pub returns : goal.returns
returns g c =
    let unboxed = c.deref_mut.ensures.value ∙ ap (λ b. b.value) c.in-Leaf.leaf-is in
    let leaf = λ (w : g.row.V.Denot). at_leaf c.args.digest.now w c.self.view_is c.self.invariant c.in-Leaf.is unboxed c.requires.key in
    ((refl, λ w. rw c.in-Leaf.is (leaf w).is), record { writes_back = tt; value = (leaf c.deref_mut.result.now.value).found })
