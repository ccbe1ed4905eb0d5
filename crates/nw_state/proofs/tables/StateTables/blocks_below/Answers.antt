use Rattle.nw_state.proofs.Words.{◌∙◌, filter, length, map, ap, arith, deref_pair}
use Rattle.std.proofs.lemmas.List.{length-map}
use Rattle.std.proofs.lemmas.List.Sums.{length-filter, count_by-le-length}
use Rattle.std.proofs.lemmas.Map.Iter.{iter_end, iter_turn}
use Rattle.nw_state.specs.Collection.{counts_at}
use Rattle.nw_state.specs.StateTables.{state_of}
use Rattle.nw_state.proofs.Counted.{dropped_count}
use Rattle.nw_state.proofs.tables.StateTables.blocks_below.Goals as goal

pub overflow_add-count : goal.overflow_add-count
overflow_add-count c =
    let seen = map deref_pair c.loop-place.yielded in
    let turn = (iter_turn deref_pair c.places_below-place-items.result c.loop-place.yielded c.into_iter-place-iterator.result c.loop-place.place-iterator c.next.new.self c.next.result c.into_iter-place-iterator.ensures.into_iter_gives c.loop-place.yielded_by (c.in-Some.place, c.in-Some.digest) c.in-Some.is c.next.ensures.steps).0 in
    omega (arith, turn, c.places_below-place-items.ensures.fits, c.loop-place.invariant, length-filter (λ e. counts_at c.args.self.now.state e.0.1 e.1) seen, count_by-le-length (λ e. counts_at c.args.self.now.state e.0.1 e.1) seen, length-map c.loop-place.yielded deref_pair)

pub returns : goal.returns
returns c =
    let whole = (iter_end deref_pair c.places_below-place-items.result c.loop-place.yielded c.into_iter-place-iterator.result c.loop-place.place-iterator c.next.new.self c.next.result c.into_iter-place-iterator.ensures.into_iter_gives c.loop-place.yielded_by c.in-None.is c.next.ensures.steps).0 in
    rw (← c.self.view_is)
    ((rw (← c.self.view_is) at c.loop-place.invariant) ∙ ap (λ es. length (filter (λ e. counts_at (state_of c.self.inside.blocks c.self.inside.certificates c.self.inside.slots c.self.inside.floor) e.0.1 e.1) es)) whole
    ∙ dropped_count c.self.inside.blocks c.self.inside.certificates c.self.inside.slots c.self.inside.floor c.self.invariant c.args.round c.places_below-place-items.result c.places_below-place-items.ensures.places)
