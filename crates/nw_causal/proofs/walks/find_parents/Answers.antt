use Rattle.nw_causal.proofs.Words.{◌≡◌, ◌+◌, Some, List, [], get_or, take, ap, sym, ◌∙◌, subst, arith, get, insert, take_all, Ref, Block, IsNamed, Frozen, HasParent, one_block}
use Rattle.std.proofs.Common.{IfSome}
use Rattle.nw_model.proofs.Finding.{names_more}
use Rattle.nw_causal.specs.declared.ancestor.Ancestor.{Ancestor}
use Rattle.nw_causal.specs.Looked.{Gains}
use Rattle.nw_causal.proofs.Levels.{gains_more, gains_none, gains_on, level_more}
use Rattle.nw_causal.proofs.walks.find_parents.Goals as goal
use Rattle.nw_causal.proofs.walks.find_parents.Goals.{in-Err+in_ok-insert-in-Err, in-Ok}

pub look_up-parent-requires : goal.look_up-parent-requires
look_up-parent-requires c =
    let there = c.requires.there c.loop-reference.reference-index (record { author = 0; digest = record { 0 = [] } }) c.loop-reference-test.true in
    let before : there.0.round + 1 ≡ c.args.round + 1 = there.3 in
    let found = c.requires.descent _ there.0 there.1 (omega (arith, before)) in
    record { there = (there.0, found); slot = subst (λ o. IfSome o (λ (b : Block). b.round ≡ c.args.round)) (sym found) (omega (arith, before)) }

pub loop-reference-preserved : goal.loop-reference-preserved
loop-reference-preserved c =
    let v : Frozen = c.args.view.now.frozen in
    let refs : List Ref = c.args.references.now in
    let none : Ref = record { author = 0; digest = record { 0 = [] } } in
    let r : Ref = get_or refs c.loop-reference.reference-index none in
    let there : HasParent v.blocks (c.args.round + 1) r = c.requires.there c.loop-reference.reference-index none c.loop-reference-test.true in
    let on = λ (after : List Ancestor) (step : Gains (λ e. r.digest ≡ e) c.loop-reference.parents.items after).
    gains_on (IsNamed (take c.loop-reference.reference-index refs)) (λ e. r.digest ≡ e) (IsNamed (take (c.loop-reference.reference-index + 1) refs)) c.args.parents.now.items c.loop-reference.parents.items after
    c.loop-reference.invariant.gains step (names_more refs c.loop-reference.reference-index none c.loop-reference-test.true) in
    elim c.match-place_of.branch [
      | in-Err+in_ok-insert-in-Err w ↦
          let a : Ancestor = w.look_up-parent.result in
          let p = w.in-Err.place in
          let block : Block = a.block.now in
          let one : there.0 ≡ block = one_block there.0 block (c.requires.descent _ there.0 there.1 (let parent = there.3 in omega (arith, parent))) w.look_up-parent.ensures.block in
          let at : get v.blocks a.digest.now ≡ Some block = ap (get v.blocks) w.look_up-parent.ensures.digest ∙ there.1 ∙ ap (λ (x : Block). Some x) one in
          let before : block.round + 1 ≡ c.args.round + 1 = subst (λ (x : Block). x.round + 1 ≡ c.args.round + 1) one there.3 in
          let by : r.author ≡ block.author = sym there.2 ∙ ap (λ (x : Block). x.author) one in
          rw (w.parents-is, w.in_ok-insert-in-Err.ensures.items) (record {
            level = level_more v c.args.round p c.loop-reference.parents.items a c.loop-reference.invariant.level at (omega (arith, before)) (rw (← c.deref.ensures.value) w.in-Err.ensures.bound)
                (rw (← by, ← c.deref.ensures.value) w.in-Err.ensures.position);
            gains = on (insert c.loop-reference.parents.items p a) (gains_more c.loop-reference.parents.items p a r.digest w.look_up-parent.ensures.digest);
          })
      | in-Ok w ↦ rw (w.parents-is) (record {
        level = c.loop-reference.invariant.level;
        gains = on c.loop-reference.parents.items (gains_none v c.args.round w.in-Ok.place c.loop-reference.parents.items r c.requires.closed c.requires.floor c.loop-reference.invariant.level there
            (rw (← c.deref.ensures.value) w.in-Ok.ensures.bound)
            (rw (← c.deref.ensures.value) w.in-Ok.ensures.position));
      })
    ]

pub returns-clause-gains : goal.returns-clause-gains
returns-clause-gains c = rw (← take_all c.loop-reference.reference-index c.args.references.now c.loop-reference-test.false) c.loop-reference.invariant.gains
