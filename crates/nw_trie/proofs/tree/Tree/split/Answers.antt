use Rattle.nw_trie.proofs.Words.{◌∙◌, ◌++◌, sym, ap, length, arith, length-append}
use Rattle.nw_trie.proofs.Splits.{tree_entries, fork_after, fork_before, entries_after, entries_before, after_all, before_all}
use Rattle.nw_trie.proofs.tree.Tree.split.Goals as goal
use Rattle.nw_trie.proofs.tree.Tree.split.Goals.{then-is_set, else-is_set}

pub forked-requires-clause-fork : goal.forked-requires-clause-fork
forked-requires-clause-fork g c =
    let all = tree_entries c.self.inside.link c.args.self.now c.self.view_is c.self.invariant in
    rw c.replace-old.ensures.value (fork_after c.args.digest.now c.args.bit c.args.self.now c.requires.differ c.requires.full all c.is_set.ensures.bytes c.args.leaf c.requires.leaf (sym c.is_set.ensures.bit ∙ c.if-is_set.true))

pub forked-requires-clause-entries : goal.forked-requires-clause-entries
forked-requires-clause-entries g c =
    let all = tree_entries c.self.inside.link c.args.self.now c.self.view_is c.self.invariant in
    rw c.replace-old.ensures.value (entries_after c.args.digest.now c.args.bit c.args.self.now c.requires.differ c.requires.full all c.is_set.ensures.bytes c.args.leaf c.requires.leaf (sym c.is_set.ensures.bit ∙ c.if-is_set.true))

pub forked-requires-else-is_set-clause-fork : goal.forked-requires-else-is_set-clause-fork
forked-requires-else-is_set-clause-fork g c =
    let all = tree_entries c.self.inside.link c.args.self.now c.self.view_is c.self.invariant in
    rw c.replace-old.ensures.value (fork_before c.args.digest.now c.args.bit c.args.self.now c.requires.differ c.requires.full all c.is_set.ensures.bytes c.args.leaf c.requires.leaf (sym c.is_set.ensures.bit ∙ c.if-is_set.false))

pub forked-requires-else-is_set-clause-entries : goal.forked-requires-else-is_set-clause-entries
forked-requires-else-is_set-clause-entries g c =
    let all = tree_entries c.self.inside.link c.args.self.now c.self.view_is c.self.invariant in
    rw c.replace-old.ensures.value (entries_before c.args.digest.now c.args.bit c.args.self.now c.requires.differ c.requires.full all c.is_set.ensures.bytes c.args.leaf c.requires.leaf (sym c.is_set.ensures.bit ∙ c.if-is_set.false))

pub returns-clause-entries : goal.returns-clause-entries
returns-clause-entries g c = λ value is.
    let all = tree_entries c.self.inside.link c.args.self.now c.self.view_is c.self.invariant in
    elim c.if-is_set.branch [
      | then-is_set w ↦
          c.forked-2.view_is ∙ w.t-12-is ∙ w.forked.ensures ∙ ap (λ es. es ++ c.args.leaf) c.replace-old.ensures.value ∙ ap (λ es. c.args.self.now ++ es) is
          ∙ after_all c.args.digest.now c.args.bit c.args.self.now c.requires.differ c.requires.full all c.is_set.ensures.bytes (sym c.is_set.ensures.bit ∙ w.if-is_set.true) value
      | else-is_set w ↦
          c.forked-2.view_is ∙ w.t-12-is ∙ w.forked-else-is_set.ensures ∙ ap (λ es. c.args.leaf ++ es) c.replace-old.ensures.value ∙ ap (λ es. es ++ c.args.self.now) is
          ∙ before_all c.args.digest.now c.args.bit c.args.self.now c.requires.differ c.requires.full all c.is_set.ensures.bytes (sym c.is_set.ensures.bit ∙ w.if-is_set.false) value
    ]

pub returns-clause-len : goal.returns-clause-len
returns-clause-len g c =
    let one = ap length c.requires.leaf.1 in
    elim c.if-is_set.branch [
      | then-is_set w ↦ ap length (c.forked-2.view_is ∙ w.t-12-is ∙ w.forked.ensures ∙ ap (λ es. es ++ c.args.leaf) c.replace-old.ensures.value) ∙ omega (arith, length-append c.args.self.now c.args.leaf, one)
      | else-is_set w ↦ ap length (c.forked-2.view_is ∙ w.t-12-is ∙ w.forked-else-is_set.ensures ∙ ap (λ es. c.args.leaf ++ es) c.replace-old.ensures.value) ∙ omega (arith, length-append c.args.leaf c.args.self.now, one)
    ]
