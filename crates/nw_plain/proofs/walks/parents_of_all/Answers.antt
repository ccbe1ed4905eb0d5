use Rattle.nw_plain.proofs.Words.{◌≡◌, Some, [], get_or, ap, sym, ◌∙◌, get, take_all, none-some, Digest, Block, Frozen, finds_nothing, under_more}
use Rattle.nw_model.proofs.Finding.{parents_nothing, parents_on, parents_there, above_is}
use Rattle.nw_plain.proofs.walks.parents_of_all.Goals as goal
use Rattle.nw_plain.proofs.walks.parents_of_all.Goals.{in-Some+in_ok-find_parents, in_default}

pub loop-digest-init : goal.loop-digest-init
loop-digest-init c = rw (c.new-parents.ensures.items) (finds_nothing _ _ _ _ (parents_nothing c.args.view.now))

pub find_parents-requires-clause-there : goal.find_parents-requires-clause-there
find_parents-requires-clause-there c =
    let v : Frozen = c.args.view.now in
    let none : Digest = record { 0 = [] } in
    let d : Digest = get_or c.args.frontier.now c.loop-digest.digest-index none in
    let block : Block = c.get-in-Some.result.now in
    let at : get v.blocks d ≡ Some block = sym c.in-Some.ensures.block ∙ ap Some (sym c.get-in-Some.ensures) in
    parents_there v d block c.in-Some.ensures.closed at (above_is v d block (c.requires.above c.loop-digest.digest-index none c.loop-digest-test.true) at)

pub find_parents-requires-clause-under : goal.find_parents-requires-clause-under
find_parents-requires-clause-under c = under_more _ _ _ _ _ _ c.loop-digest.invariant c.requires.under

pub loop-digest-preserved : goal.loop-digest-preserved
loop-digest-preserved c =
    let v : Frozen = c.args.view.now in
    let none : Digest = record { 0 = [] } in
    let d : Digest = get_or c.args.frontier.now c.loop-digest.digest-index none in
    let above = c.requires.above c.loop-digest.digest-index none c.loop-digest-test.true in
    elim c.match-get.branch [
      | in-Some+in_ok-find_parents w ↦
          let block : Block = w.get-in-Some.result.now in
          let at : get v.blocks d ≡ Some block = sym w.in-Some.ensures.block ∙ ap Some (sym w.get-in-Some.ensures) in
          rw (w.found-is, w.parents-is)
          (parents_on v c.args.frontier.now c.loop-digest.digest-index none block _ _ _ _ _ _ c.loop-digest-test.true at (above_is v d block above at) c.loop-digest.invariant w.in_ok-find_parents.ensures)
      | in_default w ↦ absurd (none-some above.0 (w.in_default.ensures.block ∙ above.1))
    ]

pub returns : goal.returns
returns c = rw (← take_all c.loop-digest.digest-index c.args.frontier.now c.loop-digest-test.false) c.loop-digest.invariant
