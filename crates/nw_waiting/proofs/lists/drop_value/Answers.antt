use Rattle.nw_waiting.proofs.Words.{◌≡◌, ◌∙◌, ◌<◌, length, not, arith, eq_by_cmp, common_steps, subst}
use Rattle.std.proofs.Common.{Equal}
use Rattle.std.proofs.lemmas.Fn.{filter_same}
use Rattle.std.specs.List.{HoldsAt}
use Rattle.nw_waiting.proofs.Members.{removed_at}
use Rattle.nw_waiting.proofs.lists.drop_value.Goals as goal

pub returns-in-Ok : goal.returns-in-Ok
returns-in-Ok g c =
    let whole = c.deref.ensures.value in
    c.remove-removed.ensures.items
    ∙ removed_at g.met.V.Ord.total c.args.value.now c.args.list.now.items c.in-Ok.place c.requires (subst (λ xs. c.in-Ok.place < length xs) whole c.in-Ok.ensures.bound)
    (subst (λ xs. HoldsAt (λ y. g.V.Ord.cmp y c.args.value.now ≡ Equal) xs c.in-Ok.place) whole c.in-Ok.ensures.ok)

pub returns-in-Err : goal.returns-in-Err
returns-in-Err g c = filter_same _ (λ x. not (eq_by_cmp g.V.Ord.cmp x c.args.value.now)) _ (λ x b f' k. let law = g.met.V.Ord.matches_eq x c.args.value.now in grind (arith, common_steps, law)) _ _ c.retain.ensures.filtered
