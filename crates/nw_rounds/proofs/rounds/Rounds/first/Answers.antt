use Rattle.nw_rounds.proofs.Words.{◌∙◌, sym, ap, get}
use Rattle.nw_rounds.specs.declared.kind.DigestKind.TheVariants.{First}
use Rattle.nw_rounds.specs.Slots.{Tables}
use Rattle.nw_rounds.proofs.OfKind.{get_in}
use Rattle.nw_rounds.proofs.rounds.Rounds.first.Goals as goal

pub returns : goal.returns
returns g c =
    c.copied.ensures ∙ c.get-2.ensures.value ∙ sym (get_in First (c.get.result, c.args.author) c.self.inside.digests.entries)
    ∙ ap (λ (t : Tables). get t.firsts (c.get.result, c.args.author)) c.self.view_is ∙ ap (λ round. get c.args.self.now.firsts (round, c.args.author)) c.get.ensures.number
