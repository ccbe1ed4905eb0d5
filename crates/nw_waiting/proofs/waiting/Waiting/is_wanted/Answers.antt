use Rattle.nw_waiting.proofs.Words.{◌∙◌, sym, wanted_apart, wanted_total}
use Rattle.std.proofs.lemmas.Map.Views.{btree_map_contains_key_iff}
use Rattle.nw_waiting.proofs.Changes.{wanted_of}
use Rattle.nw_waiting.proofs.waiting.Waiting.is_wanted.Goals as goal

pub returns : goal.returns
returns g c =
    let exactly = (wanted_of (λ v. v.items) (λ v. v.items) c.self.inside.holders.entries c.self.inside.missing.entries c.self.invariant c.args.self.now c.self.view_is).exactly c.args.wanted.now in
    let found = btree_map_contains_key_iff wanted_total wanted_apart c.self.inside.holders c.args.wanted.now in
    ((λ is. exactly.0 (found.0 (sym c.contains_key.ensures ∙ is))), (λ some. c.contains_key.ensures ∙ found.1 (exactly.1 some)))
