use Rattle.nw_rounds.proofs.Words.{◌∙◌, [], ◌∷◌, ◌++◌, ap, sym, values_of, deref_pair, iter_end}
use Rattle.nw_rounds.specs.Places.{tables_of}
use Rattle.nw_rounds.proofs.AtRound.{are_digests, values_read, values_more}
use Rattle.nw_rounds.proofs.rounds.digests_between.Goals as goal

pub loop-place-preserved : goal.loop-place-preserved
loop-place-preserved g c = c.in_ok-push.ensures.items ∙ ap (λ xs. xs ++ c.in-Some.digest.now ∷ []) c.loop-place.invariant ∙ sym (values_more c.loop-place.yielded _)

pub returns : goal.returns
returns g c =
    let items = c.places_between-place-items.result in
    let whole = (iter_end deref_pair items c.loop-place.yielded c.into_iter-place-iterator.result c.loop-place._place-iterator c.next.new.self c.next.result c.into_iter-place-iterator.ensures.into_iter_gives c.loop-place.yielded_by c.in-None.is c.next.ensures.steps).0 in
    are_digests (tables_of c.args.digests.now.entries) c.args.from c.args.to items c.places_between-place-items.ensures.places c.loop-place.found.items c.sort_unstable.new.self.items c.dedup.new.self.items
    (c.loop-place.invariant ∙ values_read c.loop-place.yielded ∙ ap values_of whole) c.sort_unstable.ensures.permutation c.sort_unstable.ensures.sorted c.dedup.ensures.filtered
