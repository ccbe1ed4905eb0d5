use Rattle.nw_waiting.proofs.Words.{◌∙◌, ap, sym, digest_cmp, get, wanted_cmp}
use Rattle.std.proofs.lemmas.Map.Keys.{IsDistinct-from_sorted}
use Rattle.nw_waiting.specs.Lists.{list_of}
use Rattle.nw_waiting.proofs.Changes.{holders_of, satisfied, satisfied_view}
use Rattle.nw_waiting.proofs.waiting.Waiting.satisfy.Goals as goal

pub returns-in_default-clause-holders : goal.returns-in_default-clause-holders
returns-in_default-clause-holders g c =
    holders_of (λ v. v.items) (λ v. v.items) c.self.inside.holders.entries c.self.inside.missing.entries c.self.invariant c.args.self.now c.self.view_is c.args.wanted.now c.new.result.items (c.new.ensures.items ∙ ap (list_of (λ v. v.items)) (sym c.in_default.is ∙ c.remove.ensures.value))

pub returns-in_default-clause-rest : goal.returns-in_default-clause-rest
returns-in_default-clause-rest g c =
    satisfied_view (λ v. v.items) (λ v. v.items) c.self.inside.holders.entries c.self.inside.missing.entries c.self.invariant c.args.self.now c.self.view_is c.remove.new.self.entries c.self.inside.missing.entries c.args.wanted.now (λ q. c.remove.ensures.updates.0 q) c.remove.ensures.ordered

pub remove_from_each-requires : goal.remove_from_each-requires
remove_from_each-requires g c q = IsDistinct-from_sorted wanted_cmp (list_of (λ v. v.items) (get digest_cmp c.self.inside.missing q)) (c.self.invariant.missing_ascends q)

pub invariant_of-self-2 : goal.invariant_of-self-2
invariant_of-self-2 g c =
    satisfied (λ v. v.items) (λ v. v.items) c.self.inside.holders.entries c.self.inside.missing.entries c.self.invariant c.args.self.now c.self.view_is c.remove.new.self.entries c.remove_from_each.new.lists.entries c.args.wanted.now (λ q. c.remove.ensures.updates.0 q)
    c.deref.result.now (c.deref.ensures.value ∙ ap (list_of (λ v. v.items)) (sym c.in-Some.is ∙ c.remove.ensures.value)) c.remove_from_each.ensures.removed (c.remove_from_each.ensures.ascending c.self.invariant.missing_ascends) c.remove.ensures.ordered

pub returns-clause-holders : goal.returns-clause-holders
returns-clause-holders g c =
    holders_of (λ v. v.items) (λ v. v.items) c.self.inside.holders.entries c.self.inside.missing.entries c.self.invariant c.args.self.now c.self.view_is c.args.wanted.now c.in-Some.holders.items (ap (list_of (λ v. v.items)) (sym c.in-Some.is ∙ c.remove.ensures.value))

pub returns-clause-rest : goal.returns-clause-rest
returns-clause-rest g c =
    satisfied_view (λ v. v.items) (λ v. v.items) c.self.inside.holders.entries c.self.inside.missing.entries c.self.invariant c.args.self.now c.self.view_is c.remove.new.self.entries c.remove_from_each.new.lists.entries c.args.wanted.now (λ q. c.remove.ensures.updates.0 q) c.remove.ensures.ordered
