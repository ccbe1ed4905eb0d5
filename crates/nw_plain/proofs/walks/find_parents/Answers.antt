use Rattle.nw_plain.proofs.Words.{◌≡◌, true, false, Some, List, [], get_or, ap, sym, ◌∙◌, is_some, FinMap, get, from_entries, take_all, none-some, Digest, Ref, Block, slot_cmp, block_slot, get_lookup, slots_total, slots_apart, put_entries, finds_nothing, under_more, there_is}
use Rattle.std.proofs.lemmas.List.Elements.{All-get_or, All-same}
use Rattle.nw_model.specs.View.{HasBlock}
use Rattle.nw_model.proofs.Finding.{finds_again, finds_one, names_nothing, names_on}
use Rattle.nw_plain.proofs.walks.find_parents.Goals as goal
use Rattle.nw_plain.proofs.walks.find_parents.Goals.{in-Some+then-not-contains_key+in_ok-insert+in_ok-push, in-Some+else-not-contains_key, in_default}

pub loop-reference-init : goal.loop-reference-init
loop-reference-init c = finds_nothing _ _ _ _ names_nothing

pub loop-reference-preserved : goal.loop-reference-preserved
loop-reference-preserved c =
    let refs : List Ref = c.as_slice-reference-items.result.now in
    let none : Ref = record { author = 0; digest = record { 0 = [] } } in
    let r : Ref = get_or refs c.loop-reference.reference-index none in
    let found : FinMap slot_cmp Digest = from_entries c.loop-reference.found.entries in
    let under = under_more _ _ _ _ _ _ c.loop-reference.invariant c.requires.under in
    let there : (b : Block) × HasBlock c.args.view.now r.digest b =
    All-get_or (λ (x : Ref). (b : Block) × HasBlock c.args.view.now x.digest b) refs c.loop-reference.reference-index none c.loop-reference-test.true
    (All-same (λ (x : Ref). (b : Block) × HasBlock c.args.view.now x.digest b) refs c.args.block.now.parents c.as_slice-reference-items.ensures c.requires.there) in
    elim c.match-get.branch [
      | in-Some+then-not-contains_key+in_ok-insert+in_ok-push w ↦
          let parent : Block = w.get-parent.result.now in
          let at : get c.args.view.now.blocks r.digest ≡ Some parent = sym w.in-Some.ensures.block ∙ ap Some (sym w.get-parent.ensures) in
          let free : is_some (get found (block_slot parent)) ≡ false = ap is_some (get_lookup slots_total c.loop-reference.found.entries (block_slot parent)) ∙ sym w.contains_key.ensures ∙ w.if-not-contains_key.true in
          rw (w.found-is, w.parents-is, w.in_ok-push.ensures.items, put_entries slots_total slots_apart c.loop-reference.found.entries w.insert.new.self.entries (block_slot parent) r.digest w.in_ok-insert.ensures.entries)
          (names_on _ refs c.loop-reference.reference-index none _ _ _ _ _ _ c.loop-reference-test.true c.loop-reference.invariant
          (finds_one _ _ _ r.digest parent (there_is _ _ parent there at) free))
      | in-Some+else-not-contains_key w ↦
          let parent : Block = w.get-parent.result.now in
          let at : get c.args.view.now.blocks r.digest ≡ Some parent = sym w.in-Some.ensures.block ∙ ap Some (sym w.get-parent.ensures) in
          let taken : is_some (get found (block_slot parent)) ≡ true = ap is_some (get_lookup slots_total c.loop-reference.found.entries (block_slot parent)) ∙ sym w.contains_key.ensures ∙ w.if-not-contains_key.false in
          rw (w.found-is, w.parents-is)
          (names_on _ refs c.loop-reference.reference-index none _ _ _ _ _ _ c.loop-reference-test.true c.loop-reference.invariant
          (finds_again _ _ _ r.digest parent w.in-Some.ensures.closed under at taken))
      | in_default w ↦ absurd (none-some there.0 (w.in_default.ensures.block ∙ there.1.0))
    ]

pub returns : goal.returns
returns c = rw (← c.as_slice-reference-items.ensures, ← take_all c.loop-reference.reference-index c.as_slice-reference-items.result.now c.loop-reference-test.false) c.loop-reference.invariant
