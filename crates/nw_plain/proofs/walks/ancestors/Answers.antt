use Rattle.nw_plain.proofs.Words.{◌≡◌, Some, ap, sym, ◌∙◌, arith, none-some, lookup, is_at, get, Block, slot_cmp, block_slot, get_lookup, put_entries, slots_total, slots_apart, there_is}
use Rattle.nw_model.proofs.Ancestors.{explores_first, explores_above, explores_on, reaches_floor, reaches_early, none_left}
use Rattle.nw_plain.proofs.walks.ancestors.Goals as goal
use Rattle.nw_plain.proofs.walks.ancestors.Goals.{in-Some+in_ok-insert+in_ok-push+else-loop-test, in-Some+in_ok-insert+in_ok-push+then-loop-test+then-is_empty, in_default}

pub loop-init : goal.loop-init
loop-init c =
    let block : Block = c.get-block.result.now in
    let at : get c.args.view.now.blocks c.args.digest ≡ Some block = sym c.in-Some.ensures.block ∙ ap Some (sym c.get-block.ensures) in
    rw (c.get-end.ensures.number, c.get-counter.ensures.number, c.floor.ensures.floor, c.in_ok-push.ensures.items, c.new-frontier.ensures.items, put_entries slots_total slots_apart c.new-found.result.entries c.insert.new.self.entries (block_slot block) c.args.digest c.in_ok-insert.ensures.entries)
    (explores_first c.args.view.now c.args.digest block _ (there_is _ _ block c.requires at) (λ slot. get_lookup slots_total c.new-found.result.entries slot ∙ ap (lookup (is_at (slot_cmp slot))) c.new-found.ensures.empty))

pub parents_of_all-requires-clause-above : goal.parents_of_all-requires-clause-above
parents_of_all-requires-clause-above c = rw (c.deref.ensures.value) (explores_above _ _ _ _ _ _ c.loop.invariant c.loop-test.true)

pub parents_of_all-requires-clause-under : goal.parents_of_all-requires-clause-under
parents_of_all-requires-clause-under c = c.loop.invariant.under

pub loop-preserved : goal.loop-preserved
loop-preserved c = explores_on _ _ _ _ c.loop.frontier.items _ _ _ c.floor.ensures.closed c.loop.invariant (rw c.deref.ensures.value at c.in_ok-frontier.ensures)

pub returns : goal.returns
returns c = elim c.match-get.branch [
  | in-Some+in_ok-insert+in_ok-push+else-loop-test w ↦ rw (w.found-is) (reaches_floor _ _ _ _ _ _ w.loop.invariant w.loop-test.false)
  | in-Some+in_ok-insert+in_ok-push+then-loop-test+then-is_empty w ↦ rw (w.found-is) (reaches_early _ _ _ _ _ _ w.loop.invariant (let none = none_left w.loop.frontier.len w.if-is_empty.ensures in omega (arith, none, w.loop.frontier.ok.0)))
  | in_default w ↦ absurd (none-some c.requires.0 (w.in_default.ensures.block ∙ c.requires.1.0))
]
