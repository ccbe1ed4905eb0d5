use Rattle.nw_generation.proofs.Words.{ap, ◌∙◌, option_or, get}
use Rattle.nw_generation.specs.Seen.{Joined, union}
use Rattle.nw_generation.proofs.Unions.{get_latest}
use Rattle.nw_generation.proofs.generations.Generations.push.Goals as goal

pub returns-clause-blocks : goal.returns-clause-blocks
returns-clause-blocks c d =
    ap (λ gs. get (union gs) d) c.in_ok-push.ensures.items
    ∙ get_latest c.self.inside.list.items c.args.generation d
    ∙ ap (λ (j : Joined). option_or (get c.args.generation d) (get j.blocks d)) c.self.view_is
