use Rattle.nw_rounds.proofs.Words.{◌∙◌, map, ap, sym, dedup, deref_pair, iter_end, eqb}
use Rattle.nw_rounds.specs.Places.{tables_of, with_author}
use Rattle.nw_rounds.proofs.Authors.{are_authors, authors_more, authors_of, authors_read, dedup_more}
use Rattle.nw_rounds.proofs.rounds.authors_at.Goals as goal

pub loop-place-preserved : goal.loop-place-preserved
loop-place-preserved g c =
    let author = c.in-Some.place.now.0.1 in
    c.in_ok-add_author.ensures
    ∙ ap (λ xs. with_author xs author) c.loop-place.invariant
    ∙ dedup_more (map (λ e. e.0.now.0.1) c.loop-place.yielded) author
    ∙ ap (dedup eqb) (sym (authors_more c.loop-place.yielded _))

pub returns : goal.returns
returns g c =
    let items = c.places_between-place-items.result in
    let whole = (iter_end deref_pair items c.loop-place.yielded c.into_iter-place-iterator.result c.loop-place.place-iterator c.next.new.self c.next.result c.into_iter-place-iterator.ensures.into_iter_gives c.loop-place.yielded_by c.in-None.is c.next.ensures.steps).0 in
    are_authors (tables_of c.args.digests.now.entries) c.args.round items c.places_between-place-items.ensures.places c.loop-place.found.items
    (c.loop-place.invariant ∙ ap (dedup eqb) (authors_read c.loop-place.yielded ∙ ap authors_of whole))
    c.places_between-place-items.ensures.ascending
