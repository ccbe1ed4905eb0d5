use Rattle.nw_trie.proofs.Words.{◌∙◌, Some, sym, ap, arith}
use Rattle.nw_trie.proofs.Sides.{at_Fork, lookup_left, lookup_right}
use Rattle.nw_trie.proofs.Grafts.{fits_key, grown_left, grown_right, key_left, key_right, at_leaf, sides_shorter}
use Rattle.nw_trie.proofs.tree.Tree.+replace.Goals as goal
use Rattle.nw_trie.proofs.tree.Tree.+replace.Goals.{in-Leaf, in-Fork+then-is_set, in-Fork+else-is_set}

pub replace-requires-then-is_set : goal.replace-requires-then-is_set
replace-requires-then-is_set g t c κs within =
    let fork = at_Fork c.self.view_is c.self.invariant c.in-Fork.is c.deref_mut-in-Fork.ensures.value in
    let shorter = sides_shorter fork c.args.digest.now in
    (omega (arith, c.decreases, shorter.1), (within.0, (within.1, key_right fork c.args.digest.now c.requires (sym c.is_set.ensures.bit ∙ c.if-is_set.true))))

pub replace-requires-else-is_set : goal.replace-requires-else-is_set
replace-requires-else-is_set g t c κs within =
    let fork = at_Fork c.self.view_is c.self.invariant c.in-Fork.is c.deref_mut-in-Fork.ensures.value in
    let shorter = sides_shorter fork c.args.digest.now in
    (omega (arith, c.decreases, shorter.0), (within.0, (within.1, key_left fork c.args.digest.now c.requires (sym c.is_set.ensures.bit ∙ c.if-is_set.false))))

pub invariant_of-self : goal.invariant_of-self
invariant_of-self g t c =
    elim c.match-self.branch [
      | in-Leaf w ↦
          let leaf = at_leaf c.args.digest.now w.replace.new.dest c.self.view_is c.self.invariant w.in-Leaf.is w.deref_mut.ensures.value c.requires in
          rw w.self-inside-is leaf.all
      | in-Fork+then-is_set w ↦
          let fork = at_Fork c.self.view_is c.self.invariant w.in-Fork.is w.deref_mut-in-Fork.ensures.value in
          let grown = grown_right fork c.args.digest.now c.args.value (fits_key fork c.args.digest.now c.requires) w.is_set.ensures.bytes w.replace-then-is_set.new.self (sym w.is_set.ensures.bit ∙ w.if-is_set.true) w.replace-then-is_set.ensures.entries in
          rw w.self-inside-is (grown.fork, grown.all)
      | in-Fork+else-is_set w ↦
          let fork = at_Fork c.self.view_is c.self.invariant w.in-Fork.is w.deref_mut-in-Fork.ensures.value in
          let grown = grown_left fork c.args.digest.now c.args.value (fits_key fork c.args.digest.now c.requires) w.is_set.ensures.bytes w.replace-else-is_set.new.self (sym w.is_set.ensures.bit ∙ w.if-is_set.false) w.replace-else-is_set.ensures.entries in
          rw w.self-inside-is (grown.fork, grown.all)
    ]

pub returns-clause-old : goal.returns-clause-old
returns-clause-old g t c =
    elim c.match-self.branch [
      | in-Leaf w ↦
          let leaf = at_leaf c.args.digest.now w.replace.new.dest c.self.view_is c.self.invariant w.in-Leaf.is w.deref_mut.ensures.value c.requires in
          leaf.found ∙ ap Some (sym (w.result-is ∙ w.replace.ensures.value))
      | in-Fork+then-is_set w ↦
          let fork = at_Fork c.self.view_is c.self.invariant w.in-Fork.is w.deref_mut-in-Fork.ensures.value in
          sym (lookup_right fork c.args.digest.now (sym w.is_set.ensures.bit ∙ w.if-is_set.true)) ∙ w.replace-then-is_set.ensures.old ∙ ap Some (sym w.result-is)
      | in-Fork+else-is_set w ↦
          let fork = at_Fork c.self.view_is c.self.invariant w.in-Fork.is w.deref_mut-in-Fork.ensures.value in
          sym (lookup_left fork c.args.digest.now (sym w.is_set.ensures.bit ∙ w.if-is_set.false)) ∙ w.replace-else-is_set.ensures.old ∙ ap Some (sym w.result-is)
    ]

pub returns-clause-entries : goal.returns-clause-entries
returns-clause-entries g t c =
    elim c.match-self.branch [
      | in-Leaf w ↦
          let leaf = at_leaf c.args.digest.now c.args.value c.self.view_is c.self.invariant w.in-Leaf.is w.deref_mut.ensures.value c.requires in
          rw (w.self-inside-is, w.replace.ensures.after) leaf.is
      | in-Fork+then-is_set w ↦
          let fork = at_Fork c.self.view_is c.self.invariant w.in-Fork.is w.deref_mut-in-Fork.ensures.value in
          let grown = grown_right fork c.args.digest.now c.args.value (fits_key fork c.args.digest.now c.requires) w.is_set.ensures.bytes w.replace-then-is_set.new.self (sym w.is_set.ensures.bit ∙ w.if-is_set.true) w.replace-then-is_set.ensures.entries in
          rw w.self-inside-is grown.is
      | in-Fork+else-is_set w ↦
          let fork = at_Fork c.self.view_is c.self.invariant w.in-Fork.is w.deref_mut-in-Fork.ensures.value in
          let grown = grown_left fork c.args.digest.now c.args.value (fits_key fork c.args.digest.now c.requires) w.is_set.ensures.bytes w.replace-else-is_set.new.self (sym w.is_set.ensures.bit ∙ w.if-is_set.false) w.replace-else-is_set.ensures.entries in
          rw w.self-inside-is grown.is
    ]
