use Rattle.nw_trie.proofs.Words.{◌∙◌, sym}
use Rattle.nw_trie.proofs.Sides.{at_Fork, lookup_left, lookup_right}
use Rattle.nw_trie.proofs.Removals.{shrunk_left, shrunk_right}
use Rattle.nw_trie.proofs.tree.Tree.+remove.Goals as goal
use Rattle.nw_trie.proofs.tree.Tree.+remove.Goals.{then-is_set, else-is_set}

pub drop_empty_side-requires : goal.drop_empty_side-requires
drop_empty_side-requires g t c =
    let fork = at_Fork c.self.view_is c.self.invariant c.in-Fork.is c.deref_mut.ensures.value in
    elim c.if-is_set.branch [
      | then-is_set w ↦
          let shrunk = shrunk_right fork c.args.digest.now w.remove-value.new.self (sym c.is_set.ensures.bit ∙ w.if-is_set.true) w.remove-value.ensures.entries in
          rw w.self-inside-is (shrunk.fork, shrunk.all)
      | else-is_set w ↦
          let shrunk = shrunk_left fork c.args.digest.now w.remove-value-else-is_set.new.self (sym c.is_set.ensures.bit ∙ w.if-is_set.false) w.remove-value-else-is_set.ensures.entries in
          rw w.self-inside-is (shrunk.fork, shrunk.all)
    ]

pub returns-clause-value : goal.returns-clause-value
returns-clause-value g t c =
    let fork = at_Fork c.self.view_is c.self.invariant c.in-Fork.is c.deref_mut.ensures.value in
    elim c.if-is_set.branch [
      | then-is_set w ↦ w.value-is ∙ w.remove-value.ensures.value ∙ lookup_right fork c.args.digest.now (sym c.is_set.ensures.bit ∙ w.if-is_set.true)
      | else-is_set w ↦ w.value-is ∙ w.remove-value-else-is_set.ensures.value ∙ lookup_left fork c.args.digest.now (sym c.is_set.ensures.bit ∙ w.if-is_set.false)
    ]

pub returns-clause-entries : goal.returns-clause-entries
returns-clause-entries g t c =
    let fork = at_Fork c.self.view_is c.self.invariant c.in-Fork.is c.deref_mut.ensures.value in
    elim c.if-is_set.branch [
      | then-is_set w ↦
          let shrunk = shrunk_right fork c.args.digest.now w.remove-value.new.self (sym c.is_set.ensures.bit ∙ w.if-is_set.true) w.remove-value.ensures.entries in
          c.drop_empty_side.ensures.entries ∙ rw w.self-inside-is shrunk.is
      | else-is_set w ↦
          let shrunk = shrunk_left fork c.args.digest.now w.remove-value-else-is_set.new.self (sym c.is_set.ensures.bit ∙ w.if-is_set.false) w.remove-value-else-is_set.ensures.entries in
          c.drop_empty_side.ensures.entries ∙ rw w.self-inside-is shrunk.is
    ]
