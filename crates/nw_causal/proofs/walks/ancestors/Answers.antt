use Rattle.nw_causal.proofs.Words.{◌≡◌, ◌+◌, ◌++◌, ◌∷◌, List, [], ap, sym, ◌∙◌, arith, FinMap, get, Block, digest_cmp, Frozen}
use Rattle.std.proofs.lemmas.List.{nil_from_length}
use Rattle.nw_model.proofs.Ancestors.{none_left}
use Rattle.nw_causal.specs.declared.ancestor.Ancestor.{Ancestor}
use Rattle.nw_causal.proofs.Exploring.{explores_first, explores_on, explores_all}
use Rattle.nw_causal.proofs.walks.ancestors.Goals as goal
use Rattle.nw_causal.proofs.walks.ancestors.Goals.{then-loop-level-test+else-not-is_empty, else-loop-level-test}

pub loop-level-init : goal.loop-level-init
loop-level-init c =
    let first : Ancestor = c.look_up-first.result in
    let level : c.push.new.self.items ≡ first ∷ [] = c.in_ok-push.ensures.items ∙ ap (λ (xs : List Ancestor). xs ++ first ∷ []) c.new-level.ensures.items in
    record {
      explores = rw (c.new-found.ensures.items, level, c.get.ensures) (explores_first c.args.view.now.frozen c.args.digest.now first c.requires c.look_up-first.ensures.digest
          (ap (λ (m : FinMap digest_cmp Block). get m c.args.digest.now) (sym c.descent-descent.ensures.blocks) ∙ c.look_up-first.ensures.block));
      descends = λ d b at low. ap (λ (m : FinMap digest_cmp Block). get m d) c.descent-descent.ensures.blocks ∙ at;
      floor = c.get-floor.ensures.number ∙ c.floor.ensures.floor;
      empty = c.new-parents.ensures.items;
    }

pub find_parents_of_all-requires-clause-descent : goal.find_parents_of_all-requires-clause-descent
find_parents_of_all-requires-clause-descent c = λ d b at low.
    let before : c.unwrap-round.result + 1 ≡ c.loop-level.round = rw c.unwrap-round.ensures at c.before-in-loop-level.ensures in
    c.descend_to.ensures d b (c.loop-level.invariant.descends d b at (omega (arith, before, low))) low

pub loop-level-preserved : goal.loop-level-preserved
loop-level-preserved c =
    let v : Frozen = c.args.view.now.frozen in
    let before : c.unwrap-round.result + 1 ≡ c.loop-level.round = rw c.unwrap-round.ensures at c.before-in-loop-level.ensures in
    record {
      explores = rw (c.in_ok-append.ensures.items, c.swap.ensures.x_after) (explores_on v c.args.digest.now c.loop-level.found.items c.loop-level.level.items c.find_parents_of_all.new.parents.items c.loop-level.round c.unwrap-round.result
          c.floor.ensures.closed c.loop-level.invariant.explores before (omega (arith, before, c.loop-level-test.true, c.loop-level.invariant.floor, c.get-in-loop-level.ensures.number)) c.in_ok-find_parents_of_all.ensures.level
          (rw (c.deref.ensures.value, c.loop-level.invariant.empty) at c.in_ok-find_parents_of_all.ensures.gains));
      descends = λ d b at low. c.descend_to.ensures d b (c.loop-level.invariant.descends d b at (omega (arith, before, low))) low;
      floor = c.get-floor.ensures.number ∙ c.floor.ensures.floor;
      empty = rw (c.swap.ensures.y_after) c.in_ok-append.ensures.other_items;
    }

pub returns-clause-found : goal.returns-clause-found
returns-clause-found c =
    rw (c.in_ok-append-2.ensures.items) (explores_all c.args.view.now.frozen c.args.digest.now c.loop-level.found.items c.loop-level.level.items c.loop-level.round c.loop-level.invariant.explores (λ above. elim c.loop-level-test.branch [
      | then-loop-level-test+else-not-is_empty w ↦
          let none = none_left c.loop-level.level.len w.if-not-is_empty.ensures in
          nil_from_length c.loop-level.level.items (omega (arith, none, c.loop-level.level.ok.0))
      | else-loop-level-test w ↦
          absurd (omega (arith, above, w.loop-level-test.false, c.loop-level.invariant.floor, c.get-in-loop-level.ensures.number))
    ]))
