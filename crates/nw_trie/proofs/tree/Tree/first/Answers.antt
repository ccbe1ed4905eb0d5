use Rattle.nw_trie.proofs.Words.{◌∙◌, sym, ap}
use Rattle.nw_trie.specs.After.{first_entry}
use Rattle.nw_trie.proofs.Splits.{none_there, tree_entries}
use Rattle.nw_trie.proofs.tree.Tree.first.Goals as goal

pub returns-in_default-link : goal.returns-in_default-link
returns-in_default-link g c =
    let none = none_there c.tree.inside.link c.in_default.not-Fork c.in_default-link.not-Leaf in
    record {
      first = sym (sym c.loop-tree.invariant ∙ ap first_entry (sym c.tree.view_is ∙ none));
      entries = tree_entries c.self.inside.link c.args.self.now c.self.view_is c.self.invariant;
    }

pub returns-clause-entries : goal.returns-clause-entries
returns-clause-entries g c = tree_entries c.self.inside.link c.args.self.now c.self.view_is c.self.invariant
