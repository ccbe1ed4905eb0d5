use Rattle.nw_plain.proofs.Words.{◌≡◌, Some, sym, ◌∙◌, ap, refl, inl, inr, FinMap, get, insert, from_entries, Block, digest_cmp, IsCompletedBy, get_lookup, inserted, digests_total, digests_apart}
use Rattle.nw_model.proofs.Complete.{completed_low, not_completed}
use Rattle.nw_plain.proofs.plain.Plain.add_if_complete.Goals as goal
use Rattle.nw_plain.proofs.plain.Plain.add_if_complete.Goals.{then-le-via-then-le, then-le-via-else-le+then-has_parents}

pub returns-in_ok-insert : goal.returns-in_ok-insert
returns-in_ok-insert c =
    let old : FinMap digest_cmp Block = from_entries c.args.complete.now.entries in
    let held : Block = c.get-held.result.now in
    let found : get c.args.self.now.state.blocks c.args.digest.now ≡ Some held =
    rw (← c.self.view_is) (get_lookup digests_total c.self.inside.blocks.entries c.args.digest.now ∙ sym c.in-Some.ensures.value ∙ ap Some (sym c.get-held.ensures)) in
    let completed : IsCompletedBy c.args.self.now.state old held =
    rw (← c.self.view_is) (elim c.then-le.branch [
      | then-le-via-then-le w ↦ completed_low c.self.inside.floor old held (sym c.le.ensures ∙ w.if-le.true)
      | then-le-via-else-le+then-has_parents w ↦ inr (w.has_parents.ensures.0 w.if-has_parents.true)
    ]) in
    let put = inserted digests_total digests_apart c.args.complete.now.entries c.insert.new.self.entries c.args.digest.now c.in_ok-try_clone.field-0 (λ q. c.in_ok-insert.ensures.updates.0 q) in
    inr (held, found, inl (completed, put ∙ ap (insert old c.args.digest.now) (c.in_ok-try_clone.ensures ∙ sym c.get-held.ensures)))

pub returns-else-has_parents : goal.returns-else-has_parents
returns-else-has_parents c =
    let old : FinMap digest_cmp Block = from_entries c.args.complete.now.entries in
    let held : Block = c.get-held.result.now in
    let found : get c.args.self.now.state.blocks c.args.digest.now ≡ Some held =
    rw (← c.self.view_is) (get_lookup digests_total c.self.inside.blocks.entries c.args.digest.now ∙ sym c.in-Some.ensures.value ∙ ap Some (sym c.get-held.ensures)) in
    inr (
      held,
      found,
      inr (
        rw (← c.self.view_is) (not_completed c.self.inside.floor old held (sym c.le.ensures ∙ c.if-le.false)
            (λ parents. let yes = c.has_parents.ensures.1 parents in absurd cc)),
        refl,
      ),
    )

pub returns-in_default : goal.returns-in_default
returns-in_default c = inl (rw (← c.self.view_is) (get_lookup digests_total c.self.inside.blocks.entries c.args.digest.now ∙ sym c.in_default.ensures.value), refl)
