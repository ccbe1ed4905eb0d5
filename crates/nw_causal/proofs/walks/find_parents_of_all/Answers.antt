use Rattle.nw_causal.proofs.Words.{◌+◌, ◌≤◌, List, All, length, take, arith, inl, inr, take_all, length-map, Block, Digest, IsNamed, IsParentOfAny, Frozen, HasParent}
use Rattle.nw_model.proofs.Finding.{parents_more, parents_nothing}
use Rattle.nw_causal.specs.declared.ancestor.Ancestor.{Ancestor}
use Rattle.nw_causal.specs.Looked.{digests}
use Rattle.nw_causal.proofs.Levels.{child_is, gains_on, level_none}
use Rattle.nw_causal.proofs.walks.find_parents_of_all.Goals as goal

pub loop-child-init : goal.loop-child-init
loop-child-init c = record {
  level = rw (c.requires.empty) (level_none c.args.view.now.frozen c.args.round);
  gains = λ e. (
    λ among. inl among,
    λ either. elim either [
      | inl among ↦ among
      | inr parent ↦ absurd (parents_nothing c.args.view.now.frozen e parent)
    ],
  );
}

pub find_parents-requires-clause-there : goal.find_parents-requires-clause-there
find_parents-requires-clause-there c =
    let v : Frozen = c.args.view.now.frozen in
    let b : Block = c.get.result.now in
    let child = child_is v (c.args.round + 1) c.loop-child.child-index c.args.level.now c.child-item.result b c.requires.level c.loop-child-test.true c.child-item.is c.get.ensures in
    let held : All (HasParent v.blocks b.round) b.parents = c.requires.closed.parents _ b child.at (omega (arith, child.of, c.requires.floor)) in
    rw (c.as_slice-references.ensures, ← child.of) held

pub loop-child-preserved : goal.loop-child-preserved
loop-child-preserved c =
    let v : Frozen = c.args.view.now.frozen in
    let a : Ancestor = c.child-item.result in
    let b : Block = c.get.result.now in
    let names : List Digest = digests c.args.level.now in
    let child = child_is v (c.args.round + 1) c.loop-child.child-index c.args.level.now a b c.requires.level c.loop-child-test.true c.child-item.is c.get.ensures in
    record {
      level = c.in_ok-find_parents.ensures.level;
      gains = gains_on (IsParentOfAny v (take c.loop-child.child-index names)) (IsNamed b.parents) (IsParentOfAny v (take (c.loop-child.child-index + 1) names)) c.args.parents.now.items c.loop-child.parents.items c.find_parents.new.parents.items
          c.loop-child.invariant.gains (rw c.as_slice-references.ensures at c.in_ok-find_parents.ensures.gains) (parents_more v names c.loop-child.child-index a.digest.now b child.within child.at (omega (arith, child.of, c.requires.floor)));
    }

pub returns-clause-gains : goal.returns-clause-gains
returns-clause-gains c =
    let names : List Digest = digests c.args.level.now in
    let past : length names ≤ c.loop-child.child-index = omega (arith, c.loop-child-test.false, length-map c.args.level.now (λ (x : Ancestor). x.digest.now)) in
    rw (← take_all c.loop-child.child-index names past) c.loop-child.invariant.gains
