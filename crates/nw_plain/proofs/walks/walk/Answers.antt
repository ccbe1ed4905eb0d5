use Rattle.nw_plain.proofs.Words.{Some, List, ap, sym, refl, ◌∙◌, values_of, deref, Digest, none-some}
use Rattle.std.proofs.lemmas.Map.Iter.{iter_turn, iter_end}
use Rattle.nw_model.proofs.Walked.{values_there, walk_on, turn_among, walked}
use Rattle.nw_plain.proofs.walks.walk.Goals as goal

pub loop-digest-init : goal.loop-digest-init
loop-digest-init c = rw (c.in_ok-blocks.ensures.items) refl

pub loop-digest-preserved-in_ok-push : goal.loop-digest-preserved-in_ok-push
loop-digest-preserved-in_ok-push c = rw (c.in_ok-push.ensures.items)
    (walk_on c.args.view.now c.loop-digest.yielded c.in-Some.digest c.loop-digest.blocks.items c.in_ok-try_clone.field-0 c.loop-digest.invariant
    (sym c.in-Some-get.ensures.block ∙ ap Some (sym c.in_ok-try_clone.ensures)))

pub loop-digest-preserved : goal.loop-digest-preserved
loop-digest-preserved c =
    let values : List Digest = values_of c.in_ok-found.found.entries in
    let turn = iter_turn deref values c.loop-digest.yielded _ _ _ _ (c.into_iter-digest-iterator.ensures.into_iter_gives ∙ c.values-digest-items.ensures.rest) c.loop-digest.yielded_by c.in-Some.digest c.in-Some.is c.next.ensures.steps in
    let there = values_there c.args.view.now c.args.digest c.in_ok-found.found.entries c.len.ensures.ordered c.in_ok-found.ensures c.in-Some.digest.now (turn_among values _ _ turn.0 turn.1) in
    absurd (none-some there.0 (c.in_default.ensures.block ∙ there.1))

pub returns : goal.returns
returns c =
    let all = iter_end deref (values_of c.in_ok-found.found.entries) c.loop-digest.yielded _ _ _ _ (c.into_iter-digest-iterator.ensures.into_iter_gives ∙ c.values-digest-items.ensures.rest) c.loop-digest.yielded_by c.in-None.is c.next.ensures.steps in
    walked c.args.view.now c.args.digest c.in_ok-found.found.entries c.loop-digest.blocks.items c.len.ensures.ordered c.in_ok-found.ensures (rw all.0 at c.loop-digest.invariant)
