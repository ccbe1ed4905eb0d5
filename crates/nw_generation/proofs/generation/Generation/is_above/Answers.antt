use Rattle.nw_generation.proofs.Words.{◌≡◌, List, Some, ap, sym, subst, ◌∙◌, FinMap, get, Digest, Block, digest_cmp, digests_total, get_lookup}
use Rattle.nw_generation.specs.Entries.{under}
use Rattle.nw_generation.proofs.generation.Generation.is_above.Goals as goal

pub returns : goal.returns
returns c higher d b at =
    let es : List (Digest × Block) = c.self.inside.index in
    let is : under es d ≡ Some b = sym (ap (λ (m : FinMap digest_cmp Block). get m d) (sym c.self.view_is) ∙ get_lookup digests_total es d) ∙ at in
    c.is_above.ensures higher d b (subst (λ (xs : List (Digest × Block)). under xs d ≡ Some b) (sym c.get.ensures) is)
