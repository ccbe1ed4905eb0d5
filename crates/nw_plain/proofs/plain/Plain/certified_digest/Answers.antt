use Rattle.nw_plain.proofs.Words.{sym, ◌∙◌, ap, from_entries, digest_cmp, slot_cmp, State, certified_digest, get_lookup, slots_total, index_answers}
use Rattle.nw_plain.proofs.plain.Plain.certified_digest.Goals as goal

pub returns : goal.returns
returns c =
    let s : State = record {
      blocks = from_entries {R = digest_cmp} c.self.inside.blocks.entries;
      certificates = from_entries {R = digest_cmp} c.self.inside.certificates.entries;
      firsts = from_entries {R = slot_cmp} c.self.inside.firsts.entries;
      floor = c.self.inside.floor;
    } in
    c.copied.ensures ∙ c.get.ensures.value ∙ sym (get_lookup slots_total c.self.inside.certified.entries c.args.slot)
    ∙ index_answers s (from_entries {R = slot_cmp} c.self.inside.certified.entries) c.args.slot c.self.invariant.indexed
    ∙ ap (λ t. certified_digest t.state c.args.slot) c.self.view_is
