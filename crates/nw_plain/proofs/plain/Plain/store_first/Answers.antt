use Rattle.nw_plain.proofs.Words.{◌≡◌, None, refl, sym, ◌∙◌, ap, get, insert, from_entries, lookup, is_at, on_ok_weaker, digest_cmp, Slot, slot_cmp, State, block_slot, get_lookup, put_entries, digests_total, digests_apart, slots_total, slots_apart, absent}
use Rattle.std.proofs.lemmas.Result.{on_err_weaker}
use Rattle.nw_plain.proofs.Held.{held_first}
use Rattle.nw_model.proofs.Kept.{kept_after_write}
use Rattle.nw_plain.proofs.plain.Plain.store_first.Goals as goal

pub insert_both-requires : goal.insert_both-requires
insert_both-requires c =
    let slot : Slot = (c.get-held.result.now.round, c.get-held.result.now.author) in
    let open_slot : get (from_entries {R = slot_cmp} c.self.inside.firsts.entries) slot ≡ None = rw (c.get-held.ensures) (absent _ (rw (← c.self.view_is) at c.requires.open)) in
    let found : lookup (is_at (slot_cmp slot)) c.self.inside.firsts.entries ≡ None = sym (get_lookup slots_total c.self.inside.firsts.entries slot) ∙ open_slot in
    rw found refl

pub invariant_of-self : goal.invariant_of-self
invariant_of-self c =
    let s : State = record {
      blocks = from_entries {R = digest_cmp} c.self.inside.blocks.entries;
      certificates = from_entries {R = digest_cmp} c.self.inside.certificates.entries;
      firsts = from_entries {R = slot_cmp} c.self.inside.firsts.entries;
      floor = c.self.inside.floor;
    } in
    kept_after_write c.insert_both.result s (from_entries {R = slot_cmp} c.self.inside.certified.entries) c.args.digest c.args.block
    (from_entries {R = digest_cmp} c.insert_both.new.held.entries) (from_entries {R = slot_cmp} c.insert_both.new.slots.entries)
    c.self.invariant
    (rw (← c.self.view_is) at c.requires.misfit)
    (rw (← c.self.view_is) at c.requires.kept)
    (on_ok_weaker c.insert_both.result
    (λ both. put_entries digests_total digests_apart c.self.inside.blocks.entries c.insert_both.new.held.entries c.args.digest c.args.block both.0)
    c.insert_both.ensures.both)
    (on_err_weaker c.insert_both.result (λ same. ap (λ es. from_entries {R = digest_cmp} es) same) c.insert_both.ensures.same_held)

pub returns-clause-state : goal.returns-clause-state
returns-clause-state c =
    let slot : Slot = (c.get-held.result.now.round, c.get-held.result.now.author) in
    let slot-is : slot ≡ block_slot c.args.block = ap block_slot c.get-held.ensures in
    on_ok_weaker c.insert_both.result
    (λ both. rw (← c.self.view_is)
    (held_first _ _ _ c.args.digest c.args.block
    (put_entries digests_total digests_apart c.self.inside.blocks.entries c.insert_both.new.held.entries c.args.digest c.args.block both.0)
    (put_entries slots_total slots_apart c.self.inside.firsts.entries c.insert_both.new.slots.entries slot c.args.digest both.1
    ∙ ap (λ (x : Slot). insert (from_entries {R = slot_cmp} c.self.inside.firsts.entries) x c.args.digest) slot-is)))
    c.insert_both.ensures.both
