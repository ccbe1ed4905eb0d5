use Rattle.nw_trie.proofs.Words.{◌∙◌, [], ap, arith, length, sym, lookup, insert_entry, is_at, digest_cmp}
use Rattle.nw_trie.proofs.Places.{found_there, length_set, none_there, put_there}
use Rattle.nw_trie.proofs.map.insert_at.Goals as goal

pub returns-in-Ok-clause-entries : goal.returns-in-Ok-clause-entries
returns-in-Ok-clause-entries g c =
    let put = c.in-Ok.ensures.entries ∙ ap (λ es. insert_entry digest_cmp es c.args.digest c.args.value) (c.in-Some.ensures.item.3.1 []) in
    (put_there c.args.bits c.args.trees.now.items c.args.digest c.place-place.result c.requires.places c.place-place.ensures.place c.args.value c.insert.new.self c.place-place.ensures.bytes c.in-Some.ensures.item.3.0 put).0

pub returns-in-Ok-clause-len : goal.returns-in-Ok-clause-len
returns-in-Ok-clause-len g c =
    omega (arith, length_set c.args.trees.now.items c.place-place.result c.insert.new.self c.in-Some.ensures.item.3.0, c.in-Ok.ensures.len, ap length (c.in-Some.ensures.item.3.1 []))

pub returns-in-Ok-clause-places : goal.returns-in-Ok-clause-places
returns-in-Ok-clause-places g c =
    let put = c.in-Ok.ensures.entries ∙ ap (λ es. insert_entry digest_cmp es c.args.digest c.args.value) (c.in-Some.ensures.item.3.1 []) in
    (put_there c.args.bits c.args.trees.now.items c.args.digest c.place-place.result c.requires.places c.place-place.ensures.place c.args.value c.insert.new.self c.place-place.ensures.bytes c.in-Some.ensures.item.3.0 put).1

pub returns-in-Err-clause-absent : goal.returns-in-Err-clause-absent
returns-in-Err-clause-absent g c =
    sym (found_there c.args.bits c.args.trees.now.items c.args.digest c.place-place.result c.requires.places c.place-place.ensures.place) ∙ ap (lookup (is_at (digest_cmp c.args.digest))) (sym (c.in-Some.ensures.item.3.1 [])) ∙ c.in-Err.ensures.absent

pub returns-in_default-clause-absent : goal.returns-in_default-clause-absent
returns-in_default-clause-absent g c =
    sym (none_there c.args.bits c.args.trees.now.items c.args.digest c.place-place.result c.requires.places c.place-place.ensures.place c.in_default.ensures.item.3)

pub returns-in-Ok-clause-old : goal.returns-in-Ok-clause-old
returns-in-Ok-clause-old g c =
    c.in-Ok.ensures.old ∙ ap (lookup (is_at (digest_cmp c.args.digest))) (c.in-Some.ensures.item.3.1 []) ∙ found_there c.args.bits c.args.trees.now.items c.args.digest c.place-place.result c.requires.places c.place-place.ensures.place
