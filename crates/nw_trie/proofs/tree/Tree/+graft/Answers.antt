use Rattle.nw_trie.proofs.Words.{◌∙◌, refl, sym, ap, length, arith, subst, insert_entry, digest_cmp}
use Rattle.nw_trie.specs.Entries.{BranchesAt}
use Rattle.nw_trie.proofs.Sides.{at_Fork}
use Rattle.nw_trie.proofs.Grafts.{differ_alone, down_side, each_differ, fits_branch, grown_side}
use Rattle.nw_trie.proofs.tree.Tree.+graft.Goals as goal
use Rattle.nw_trie.proofs.tree.Tree.+graft.Goals.{in-Fork+else-at-bit, in_default}

pub graft-requires : goal.graft-requires
graft-requires g t c κs within =
    let fork = at_Fork c.self.view_is c.self.invariant c.in-Fork.is c.deref_mut.ensures.value in
    let down = down_side c.deref_mut.result.now fork c.args.digest.now c.args.bit c.if-at-bit.true c.requires.branches c.is_set.result c.is_set.ensures.bit in
    let there = c.side_mut-side.ensures.value in
    (omega (arith, c.decreases, down.0, ap length there), (within.0, (within.1, (subst (BranchesAt c.args.digest.now c.args.bit) (sym there) down.1, c.requires.leaf))))

pub invariant_of-self : goal.invariant_of-self
invariant_of-self g t c =
    let fork = at_Fork c.self.view_is c.self.invariant c.in-Fork.is c.deref_mut.ensures.value in
    let fits = fits_branch fork c.args.digest.now c.args.bit c.if-at-bit.true c.requires.branches in
    let leaf = c.requires.leaf in
    let there = c.graft.ensures.entries leaf.0 leaf.1 ∙ ap (λ es. insert_entry digest_cmp es c.args.digest.now leaf.0) c.side_mut-side.ensures.value in
    let grown = grown_side c.deref_mut.result.now fork c.args.digest.now leaf.0 fits c.is_set.ensures.bytes c.is_set.result c.is_set.ensures.bit c.graft.new.self there in
    (grown.fork, grown.all)

pub returns-then-at-bit-clause-entries : goal.returns-then-at-bit-clause-entries
returns-then-at-bit-clause-entries g t c = λ value is.
    let fork = at_Fork c.self.view_is c.self.invariant c.in-Fork.is c.deref_mut.ensures.value in
    let fits = fits_branch fork c.args.digest.now c.args.bit c.if-at-bit.true c.requires.branches in
    let there = c.graft.ensures.entries value is ∙ ap (λ es. insert_entry digest_cmp es c.args.digest.now value) c.side_mut-side.ensures.value in
    (grown_side c.deref_mut.result.now fork c.args.digest.now value fits c.is_set.ensures.bytes c.is_set.result c.is_set.ensures.bit c.graft.new.self there).is

pub split-requires-clause-differ : goal.split-requires-clause-differ
split-requires-clause-differ g t c =
    elim c.match-self.branch [
      | in-Fork+else-at-bit w ↦
          let fork = at_Fork c.self.view_is c.self.invariant w.in-Fork.is refl in
          rw w.self-inside-is (each_differ c.args.digest.now fork.fork.front c.args.bit w.in-Fork.at _ fork.fork.agree w.if-at-bit.false (subst (BranchesAt c.args.digest.now c.args.bit) fork.is c.requires.branches))
      | in_default w ↦ rw w.self-inside-is (differ_alone c.args.digest.now c.args.bit c.self.inside.link w.in_default.not-Fork (subst (BranchesAt c.args.digest.now c.args.bit) (sym c.self.view_is) c.requires.branches))
    ]
