use Rattle.nw_waiting.proofs.Words.{◌≡◌, ◌∙◌, ap, arith, refl, sym, subst, cond, length, get, list_any, eq_by_cmp, common_steps, digest_cmp, digests_total, wanted_cmp, wanted_total}
use Rattle.std.proofs.Common.{◌≤◌}
use Rattle.std.specs.List.{insert}
use Rattle.std.specs.List.Sorted.{IsStrictlySortedBy}
use Rattle.nw_waiting.proofs.Ascending.{IsPlace, absent, any_put, ascends, found, rises}
use Rattle.nw_waiting.specs.Lists.{list_of}
use Rattle.nw_waiting.proofs.Changes.{added, added_view, kept, kept_view, missing_member}
use Rattle.nw_waiting.proofs.Members.{placed, rewritten}
use Rattle.nw_waiting.proofs.Relation.{insert_same, on_err}
use Rattle.nw_waiting.proofs.waiting.Waiting.want.Goals as goal

pub invariant_of-self-in_default : goal.invariant_of-self-in_default
invariant_of-self-in_default g c =
    let was : c.or_insert-missing.result.now.items ≡ list_of (λ v. v.items) (get digest_cmp c.self.inside.missing c.args.holder) = grind (arith, common_steps) in
    kept (λ v. v.items) (λ v. v.items) c.self.inside.holders.entries c.self.inside.missing.entries c.self.invariant c.args.self.now c.self.view_is c.self.inside.holders.entries _ (λ w. refl)
    (rewritten digests_total (λ v. v.items) c.self.inside.missing.entries _ c.args.holder c.or_insert-missing.result.now (λ q. grind (arith, c.in_ok-self-inside.ensures.update.0 c.or_insert-missing.result.now)) was)
    c.self.invariant.filled c.self.invariant.ordered

pub returns-in_default-clause-added : goal.returns-in_default-clause-added
returns-in_default-clause-added g c =
    let was : c.or_insert-missing.result.now.items ≡ list_of (λ v. v.items) (get digest_cmp c.self.inside.missing c.args.holder) = grind (arith, common_steps) in
    let here = found wanted_total c.args.wanted c.deref.result.now c.in_default.field-0 c.in_default.ensures.bound c.in_default.ensures.ok in
    c.self.view_is ∙ insert_same c.args.self.now c.args.wanted c.args.holder (sym (missing_member (λ v. v.items) (λ v. v.items) c.self.inside.holders.entries c.self.inside.missing.entries c.self.invariant c.args.self.now c.self.view_is c.args.wanted c.args.holder)
    ∙ ap (list_any (eq_by_cmp wanted_cmp c.args.wanted)) (sym (c.deref.ensures.value ∙ was)) ∙ here)

pub invariant_of-self-in_err-make_room : goal.invariant_of-self-in_err-make_room
invariant_of-self-in_err-make_room g c =
    let was : c.or_insert-missing.result.now.items ≡ list_of (λ v. v.items) (get digest_cmp c.self.inside.missing c.args.holder) = grind (arith, common_steps) in
    kept (λ v. v.items) (λ v. v.items) c.self.inside.holders.entries c.self.inside.missing.entries c.self.invariant c.args.self.now c.self.view_is c.self.inside.holders.entries _ (λ w. refl)
    (rewritten digests_total (λ v. v.items) c.self.inside.missing.entries _ c.args.holder c.make_room.new.list (λ q. grind (arith, c.in_ok-self-inside.ensures.update.0 c.make_room.new.list)) (c.in_err-make_room.ensures.items ∙ was))
    c.self.invariant.filled c.self.invariant.ordered

pub invariant_of-self-in_err-add : goal.invariant_of-self-in_err-add
invariant_of-self-in_err-add g c =
    let was : c.or_insert-missing.result.now.items ≡ list_of (λ v. v.items) (get digest_cmp c.self.inside.missing c.args.holder) = grind (arith, common_steps) in
    kept (λ v. v.items) (λ v. v.items) c.self.inside.holders.entries c.self.inside.missing.entries c.self.invariant c.args.self.now c.self.view_is c.add.new.lists.entries _ c.in_err-add.ensures.kept
    (rewritten digests_total (λ v. v.items) c.self.inside.missing.entries _ c.args.holder c.make_room.new.list (λ q. grind (arith, c.in_ok-self-inside.ensures.update.0 c.make_room.new.list)) (c.in_ok-make_room.ensures.items ∙ was))
    (c.add.ensures.filled c.self.invariant.filled) c.add.ensures.ordered

pub returns-in_err-add-clause-unchanged : goal.returns-in_err-add-clause-unchanged
returns-in_err-add-clause-unchanged g c =
    on_err c.from_residual-in_err-add.result (kept_view (λ v. v.items) (λ v. v.items) c.self.inside.holders.entries c.self.inside.missing.entries c.self.invariant c.args.self.now c.self.view_is c.add.new.lists.entries c.self.inside.missing.entries c.in_err-add.ensures.kept c.add.ensures.ordered)

pub invariant_of-self-2 : goal.invariant_of-self-2
invariant_of-self-2 g c =
    let xs = list_of (λ v. v.items) (get digest_cmp c.self.inside.missing c.args.holder) in
    let was : c.or_insert-missing.result.now.items ≡ xs = grind (arith, common_steps) in
    let whole = c.deref.ensures.value ∙ was in
    let ascending = c.self.invariant.missing_ascends c.args.holder in
    let place = subst (λ ys. IsPlace wanted_total c.args.wanted ys c.in-Err.place) whole (c.in-Err.ensures.position (rises wanted_total c.args.wanted c.deref.result.now (subst (IsStrictlySortedBy wanted_cmp) (sym whole) ascending))) in
    let within = subst (λ ys. c.in-Err.place ≤ length ys) whole c.in-Err.ensures.bound in
    let put : c.insert-inserted.new.self.items ≡ insert xs c.in-Err.place c.args.wanted =
    c.insert-inserted.ensures.items ∙ ap (λ b. cond b (insert c.make_room.new.list.items c.in-Err.place c.args.wanted) c.make_room.new.list.items) (c.insert-inserted.ensures.succeeds c.in_ok-make_room.ensures.room)
    ∙ ap (λ ys. insert ys c.in-Err.place c.args.wanted) (c.in_ok-make_room.ensures.items ∙ was) in
    added (λ v. v.items) (λ v. v.items) c.self.inside.holders.entries c.self.inside.missing.entries c.self.invariant c.args.self.now c.self.view_is c.add.new.lists.entries _ c.args.wanted c.args.holder
    (absent wanted_total c.args.wanted xs c.in-Err.place place) c.in_ok-add.ensures.added
    c.insert-inserted.new.self.items (λ w. ap (list_any (eq_by_cmp wanted_cmp w)) put ∙ any_put wanted_total c.args.wanted (eq_by_cmp wanted_cmp w) xs c.in-Err.place)
    (subst (IsStrictlySortedBy wanted_cmp) (sym put) (ascends wanted_total c.args.wanted xs c.in-Err.place within place ascending))
    (placed digests_total (λ v. v.items) c.self.inside.missing.entries _ c.args.holder c.insert-inserted.new.self (λ q. grind (arith, c.in_ok-self-inside.ensures.update.0 c.insert-inserted.new.self)))
    (c.add.ensures.filled c.self.invariant.filled) c.add.ensures.ordered

pub returns-clause-added : goal.returns-clause-added
returns-clause-added g c =
    let xs = list_of (λ v. v.items) (get digest_cmp c.self.inside.missing c.args.holder) in
    let was : c.or_insert-missing.result.now.items ≡ xs = grind (arith, common_steps) in
    let whole = c.deref.ensures.value ∙ was in
    let place = subst (λ ys. IsPlace wanted_total c.args.wanted ys c.in-Err.place) whole (c.in-Err.ensures.position (rises wanted_total c.args.wanted c.deref.result.now (subst (IsStrictlySortedBy wanted_cmp) (sym whole) (c.self.invariant.missing_ascends c.args.holder)))) in
    added_view (λ v. v.items) (λ v. v.items) c.self.inside.holders.entries c.self.inside.missing.entries c.self.invariant c.args.self.now c.self.view_is c.add.new.lists.entries c.self.inside.missing.entries c.args.wanted c.args.holder
    (absent wanted_total c.args.wanted xs c.in-Err.place place) c.in_ok-add.ensures.added c.add.ensures.ordered
