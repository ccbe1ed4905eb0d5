use Rattle.nw_waiting.proofs.Words.{◌∙◌, sym, keys}
use Rattle.std.proofs.lemmas.Map.Entries.{length-keys_of}
use Rattle.nw_waiting.proofs.Changes.{wanted_of}
use Rattle.nw_waiting.proofs.waiting.Waiting.count.Goals as goal

pub returns : goal.returns
returns g c =
    (keys c.self.inside.holders, wanted_of (λ v. v.items) (λ v. v.items) c.self.inside.holders.entries c.self.inside.missing.entries c.self.invariant c.args.self.now c.self.view_is, length-keys_of c.self.inside.holders.entries ∙ sym c.len.ensures.len)
