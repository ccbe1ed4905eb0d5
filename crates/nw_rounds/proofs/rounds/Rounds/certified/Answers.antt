use Rattle.nw_rounds.proofs.Words.{◌∙◌, sym, ap, get}
use Rattle.nw_rounds.specs.declared.kind.DigestKind.TheVariants.{Certified}
use Rattle.nw_rounds.specs.Slots.{Tables}
use Rattle.nw_rounds.proofs.OfKind.{get_in}
use Rattle.nw_rounds.proofs.rounds.Rounds.certified.Goals as goal

pub returns : goal.returns
returns g c =
    c.copied.ensures ∙ c.get-2.ensures.value ∙ sym (get_in Certified (c.get.result, c.args.author) c.self.inside.digests.entries)
    ∙ ap (λ (t : Tables). get t.certified (c.get.result, c.args.author)) c.self.view_is ∙ ap (λ round. get c.args.self.now.certified (round, c.args.author)) c.get.ensures.number
