use Rattle.nw_waiting.proofs.Words.{◌∙◌, [], ap, sym}
use Rattle.std.specs.Option.{option_copied}
use Rattle.nw_waiting.specs.Lists.{list_of}
use Rattle.nw_waiting.proofs.Changes.{missing_listed}
use Rattle.nw_waiting.proofs.waiting.Waiting.missing_of.Goals as goal

pub returns-in-None : goal.returns-in-None
returns-in-None g c =
    missing_listed (λ v. v.items) (λ v. v.items) c.self.inside.holders.entries c.self.inside.missing.entries c.self.invariant c.args.self.now c.self.view_is c.args.holder [] (ap (list_of (λ v. v.items)) (sym (ap option_copied c.in-None.is) ∙ c.get.ensures.value))

pub returns-in-Some : goal.returns-in-Some
returns-in-Some g c =
    missing_listed (λ v. v.items) (λ v. v.items) c.self.inside.holders.entries c.self.inside.missing.entries c.self.invariant c.args.self.now c.self.view_is c.args.holder c.as_slice.result.now (c.as_slice.ensures.value ∙ ap (list_of (λ v. v.items)) (sym (ap option_copied c.in-Some.is) ∙ c.get.ensures.value))
