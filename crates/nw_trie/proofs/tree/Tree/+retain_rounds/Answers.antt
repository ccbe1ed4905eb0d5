use Rattle.nw_trie.proofs.Words.{◌∙◌}
use Rattle.nw_trie.proofs.Sides.{at_Fork}
use Rattle.nw_trie.proofs.Removals.{shrunk_both}
use Rattle.nw_trie.proofs.tree.Tree.+retain_rounds.Goals as goal

pub drop_empty_side-requires : goal.drop_empty_side-requires
drop_empty_side-requires g t c =
    let fork = at_Fork c.self.view_is c.self.invariant c.in-Fork.is c.deref_mut-in-Fork.ensures.value in
    let shrunk = shrunk_both fork _ c.retain_rounds.new.self c.retain_rounds-in-Fork.new.self c.retain_rounds.ensures.kept c.retain_rounds-in-Fork.ensures.kept in
    (shrunk.fork, shrunk.all)

pub returns-in-Fork-clause-kept : goal.returns-in-Fork-clause-kept
returns-in-Fork-clause-kept g t c =
    let fork = at_Fork c.self.view_is c.self.invariant c.in-Fork.is c.deref_mut-in-Fork.ensures.value in
    let shrunk = shrunk_both fork _ c.retain_rounds.new.self c.retain_rounds-in-Fork.new.self c.retain_rounds.ensures.kept c.retain_rounds-in-Fork.ensures.kept in
    c.drop_empty_side.ensures.entries ∙ shrunk.is
