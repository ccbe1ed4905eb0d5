use Rattle.nw_trie.proofs.Words.{◌∙◌, [], ap, arith, get_or, lookup, remove_entry, is_at, digest_cmp}
use Rattle.nw_trie.proofs.Removals.{removed}
use Rattle.nw_trie.proofs.Places.{found_there, length_set, none_removed, none_there, removed_there}
use Rattle.nw_trie.proofs.map.remove_at.Goals as goal

pub returns-in-None-clause-value : goal.returns-in-None-clause-value
returns-in-None-clause-value g c = none_there c.args.bits c.args.trees.now.items c.args.digest.now c.place-place.result c.requires.places c.place-place.ensures.place c.in-None.ensures.item.3

pub returns-in-None-clause-entries : goal.returns-in-None-clause-entries
returns-in-None-clause-entries g c = none_removed c.args.bits c.args.trees.now.items c.args.digest.now c.place-place.result c.requires.places c.place-place.ensures.place c.in-None.ensures.item.3

pub returns-in-Some-clause-value : goal.returns-in-Some-clause-value
returns-in-Some-clause-value g c =
    c.remove.ensures.value ∙ ap (lookup (is_at (digest_cmp c.args.digest.now))) (c.in-Some.ensures.item.3.1 [])
    ∙ found_there c.args.bits c.args.trees.now.items c.args.digest.now c.place-place.result c.requires.places c.place-place.ensures.place

pub returns-in-Some-clause-entries : goal.returns-in-Some-clause-entries
returns-in-Some-clause-entries g c =
    let removed = c.remove.ensures.entries ∙ ap (remove_entry (is_at (digest_cmp c.args.digest.now))) (c.in-Some.ensures.item.3.1 []) in
    (removed_there c.args.bits c.args.trees.now.items c.args.digest.now c.place-place.result c.requires.places c.place-place.ensures.place c.remove.new.self c.in-Some.ensures.item.3.0 removed).0

pub returns-in-Some-clause-places : goal.returns-in-Some-clause-places
returns-in-Some-clause-places g c =
    let removed = c.remove.ensures.entries ∙ ap (remove_entry (is_at (digest_cmp c.args.digest.now))) (c.in-Some.ensures.item.3.1 []) in
    (removed_there c.args.bits c.args.trees.now.items c.args.digest.now c.place-place.result c.requires.places c.place-place.ensures.place c.remove.new.self c.in-Some.ensures.item.3.0 removed).1

pub returns-in-Some-clause-len : goal.returns-in-Some-clause-len
returns-in-Some-clause-len g c =
    let place = c.place-place.result in
    let trees = c.args.trees.now.items in
    let there = removed _ (get_or trees place []) c.in-Some.tree.now c.remove.new.self c.remove.result (c.in-Some.ensures.item.3.1 []) c.remove.ensures.value c.remove.ensures.entries in
    omega (arith, there, length_set trees place c.remove.new.self c.in-Some.ensures.item.3.0)
