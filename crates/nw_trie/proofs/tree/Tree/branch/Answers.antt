use Rattle.nw_trie.proofs.Words.{◌∙◌, sym, ap, subst, arith, length, MatchOption}
use Rattle.nw_trie.specs.Entries.{BranchesAt, HasKey}
use Rattle.nw_trie.proofs.Sides.{at_Fork, at_Leaf, branch_left, branch_right}
use Rattle.nw_trie.proofs.Grafts.{branch_leaf}
use Rattle.nw_trie.proofs.Splits.{none_there}
use Rattle.nw_trie.proofs.tree.Tree.branch.Goals as goal

pub loop-near-preserved-then-is_set : goal.loop-near-preserved-then-is_set
loop-near-preserved-then-is_set g c =
    let fork = at_Fork c.near.view_is c.near.invariant c.in-Fork.is c.deref.ensures in
    record {
      full = fork.fork.right_nonempty;
      led = λ o h. c.loop-near.invariant.led o (branch_right fork c.args.digest.now o (sym c.is_set.ensures.bit ∙ c.if-is_set.true) h);
    }

pub loop-near-preserved : goal.loop-near-preserved
loop-near-preserved g c =
    let fork = at_Fork c.near.view_is c.near.invariant c.in-Fork.is c.deref.ensures in
    record {
      full = fork.fork.left_nonempty;
      led = λ o h. c.loop-near.invariant.led o (branch_left fork c.args.digest.now o (sym c.is_set.ensures.bit ∙ c.if-is_set.false) h);
    }

pub returns : goal.returns
returns g c =
    let leaf = at_Leaf c.near.view_is c.in-Leaf.is c.deref-2.ensures in
    c.loop-near.invariant.led c.first_difference.result (subst (λ es. MatchOption c.first_difference.result (HasKey c.args.digest.now es) (λ n. BranchesAt c.args.digest.now n es)) (sym leaf) (branch_leaf c.args.digest.now c.deref-2.result.now.digest c.deref-2.result.now.value c.first_difference.result c.first_difference.ensures))

pub returns-in_default-link : goal.returns-in_default-link
returns-in_default-link g c =
    let none = none_there c.near.inside.link c.in_default.not-Fork c.in_default-link.not-Leaf in
    absurd (omega (arith, c.loop-near.invariant.full, ap length (sym c.near.view_is ∙ none)))
