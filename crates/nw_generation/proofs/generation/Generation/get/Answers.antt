use Rattle.nw_generation.proofs.Words.{List, ap, sym, subst, ◌∙◌, FinMap, get, Digest, Block, digest_cmp, digests_total, get_lookup}
use Rattle.nw_generation.specs.Entries.{under}
use Rattle.nw_generation.specs.Seen.{IsOfRound}
use Rattle.nw_generation.proofs.generation.Generation.get.Goals as goal

pub get-requires-2 : goal.get-requires-2
get-requires-2 c =
    let d : Digest = c.args.digest.now in
    let is = ap (λ (es : List (Digest × Block)). under es d) c.get.ensures ∙ sym (get_lookup digests_total c.self.inside.index d) ∙ ap (λ (m : FinMap digest_cmp Block). get m d) c.self.view_is in
    subst (IsOfRound c.args.slot) (sym is) c.requires

pub returns : goal.returns
returns c =
    let d : Digest = c.args.digest.now in
    c.get-2.ensures ∙ ap (λ (es : List (Digest × Block)). under es d) c.get.ensures ∙ sym (get_lookup digests_total c.self.inside.index d) ∙ ap (λ (m : FinMap digest_cmp Block). get m d) c.self.view_is
