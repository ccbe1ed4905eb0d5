use Rattle.nw_trie.proofs.Words.{◌∙◌, sym, ap, is_some}
use Rattle.nw_trie.proofs.Descents.{copied_some, has_found}
use Rattle.nw_trie.proofs.trie.Trie.get_mut.Goals as goal

pub value_mut-requires : goal.value_mut-requires
value_mut-requires g c = has_found c.args.digest.now c.self.inside.tree (sym (ap is_some c.get.ensures.value) ∙ copied_some c.get.result ∙ c.if-is_none.ensures)

pub invariant_of-self-lent : goal.invariant_of-self-lent
invariant_of-self-lent g c = λ w. c.self.invariant ∙ sym (c.value_mut.ensures.len w)
