use Rattle.nw_trie.proofs.Words.{◌∙◌, ap, [], get_or, lookup, is_at, digest_cmp}
use Rattle.nw_trie.proofs.Places.{found_there, none_there}
use Rattle.nw_trie.proofs.map.DigestMap.get.Goals as goal

pub returns-in-None : goal.returns-in-None
returns-in-None g c = record {
  value =
      none_there c.self.inside.bits c.self.inside.trees.items c.args.digest.now c.place-place.result c.self.invariant.places c.place-place.ensures.place (rw (← c.deref.ensures.value) c.in-None.ensures.lookup.3)
      ∙ ap (lookup (is_at (digest_cmp c.args.digest.now))) c.self.view_is;
}

pub returns-in-Some : goal.returns-in-Some
returns-in-Some g c = record {
  value =
      c.get-in-Some.ensures ∙ ap (lookup (is_at (digest_cmp c.args.digest.now))) (c.in-Some.ensures.lookup.3.1 [] ∙ ap (λ trees. get_or trees c.place-place.result []) c.deref.ensures.value)
      ∙ found_there c.self.inside.bits c.self.inside.trees.items c.args.digest.now c.place-place.result c.self.invariant.places c.place-place.ensures.place
      ∙ ap (lookup (is_at (digest_cmp c.args.digest.now))) c.self.view_is;
}
