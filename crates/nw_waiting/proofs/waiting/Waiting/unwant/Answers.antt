use Rattle.nw_waiting.proofs.Words.{◌∙◌, [], ap, sym}
use Rattle.nw_waiting.specs.Lists.{list_of}
use Rattle.nw_waiting.proofs.Changes.{missing_of, unwanted, unwanted_view}
use Rattle.nw_waiting.proofs.Members.{and_true}
use Rattle.nw_waiting.proofs.waiting.Waiting.unwant.Goals as goal

pub returns-in_default-clause-missing : goal.returns-in_default-clause-missing
returns-in_default-clause-missing g c =
    missing_of (λ v. v.items) (λ v. v.items) c.self.inside.holders.entries c.self.inside.missing.entries c.self.invariant c.args.self.now c.self.view_is c.args.holder c.new.result.items (c.new.ensures.items ∙ ap (list_of (λ v. v.items)) (sym c.in_default.is ∙ c.remove.ensures.value))

pub returns-in_default-clause-rest : goal.returns-in_default-clause-rest
returns-in_default-clause-rest g c =
    unwanted_view (λ v. v.items) (λ v. v.items) c.self.inside.holders.entries c.self.inside.missing.entries c.self.invariant c.args.self.now c.self.view_is c.self.inside.holders.entries c.remove.new.self.entries c.args.holder
    [] (ap (list_of (λ v. v.items)) (sym c.in_default.is ∙ c.remove.ensures.value)) (λ w h. and_true _) c.self.invariant.ordered

pub invariant_of-self-2 : goal.invariant_of-self-2
invariant_of-self-2 g c =
    unwanted (λ v. v.items) (λ v. v.items) c.self.inside.holders.entries c.self.inside.missing.entries c.self.invariant c.args.self.now c.self.view_is c.remove_from_each.new.lists.entries c.remove.new.self.entries c.args.holder
    c.deref.result.now (c.deref.ensures.value ∙ ap (list_of (λ v. v.items)) (sym c.in-Some.is ∙ c.remove.ensures.value)) c.remove_from_each.ensures.removed (λ q. c.remove.ensures.updates.0 q)
    c.remove_from_each.ensures.once (c.remove_from_each.ensures.filled c.self.invariant.filled) (c.remove_from_each.ensures.ordered c.self.invariant.ordered)

pub returns-clause-missing : goal.returns-clause-missing
returns-clause-missing g c =
    missing_of (λ v. v.items) (λ v. v.items) c.self.inside.holders.entries c.self.inside.missing.entries c.self.invariant c.args.self.now c.self.view_is c.args.holder c.in-Some.missing.items (ap (list_of (λ v. v.items)) (sym c.in-Some.is ∙ c.remove.ensures.value))

pub returns-clause-rest : goal.returns-clause-rest
returns-clause-rest g c =
    unwanted_view (λ v. v.items) (λ v. v.items) c.self.inside.holders.entries c.self.inside.missing.entries c.self.invariant c.args.self.now c.self.view_is c.remove_from_each.new.lists.entries c.remove.new.self.entries c.args.holder
    c.deref.result.now (c.deref.ensures.value ∙ ap (list_of (λ v. v.items)) (sym c.in-Some.is ∙ c.remove.ensures.value)) c.remove_from_each.ensures.removed (c.remove_from_each.ensures.ordered c.self.invariant.ordered)
