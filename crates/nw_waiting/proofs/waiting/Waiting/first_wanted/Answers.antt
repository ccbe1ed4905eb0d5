use Rattle.nw_waiting.proofs.Words.{◌∙◌, ap, take, keys}
use Rattle.nw_waiting.proofs.Changes.{wanted_of}
use Rattle.nw_waiting.proofs.waiting.Waiting.first_wanted.Goals as goal

pub returns : goal.returns
returns g c = (keys c.self.inside.holders, wanted_of (λ v. v.items) (λ v. v.items) c.self.inside.holders.entries c.self.inside.missing.entries c.self.invariant c.args.self.now c.self.view_is, c.in_ok-first_keys.ensures ∙ ap (λ n. take n (keys c.self.inside.holders)) c.from.ensures)
