use Rattle.nw_plain.proofs.Words.{from_entries, digest_cmp, slot_cmp, State, inserted, digests_total, digests_apart}
use Rattle.nw_model.proofs.Kept.{kept_written}
use Rattle.nw_plain.proofs.Held.{held}
use Rattle.nw_plain.proofs.plain.Plain.store.Goals as goal

pub returns-clause-state : goal.returns-clause-state
returns-clause-state c =
    rw (← c.self.view_is, c.if-vote.false)
    (held _ _ c.args.digest c.args.block (inserted digests_total digests_apart c.self.inside.blocks.entries c.insert.new.self.entries c.args.digest c.args.block (λ q. c.in_ok-insert.ensures.updates.0 q)))

pub invariant_of-self-2 : goal.invariant_of-self-2
invariant_of-self-2 c =
    let s : State = record {
      blocks = from_entries {R = digest_cmp} c.self.inside.blocks.entries;
      certificates = from_entries {R = digest_cmp} c.self.inside.certificates.entries;
      firsts = from_entries {R = slot_cmp} c.self.inside.firsts.entries;
      floor = c.self.inside.floor;
    } in
    kept_written s (from_entries {R = slot_cmp} c.self.inside.certified.entries) c.args.digest c.args.block
    (from_entries {R = digest_cmp} c.insert.new.self.entries) (from_entries {R = slot_cmp} c.self.inside.firsts.entries)
    c.self.invariant
    (rw (← c.self.view_is) at c.requires.misfit)
    (rw (← c.self.view_is) at c.requires.kept)
    (inserted digests_total digests_apart c.self.inside.blocks.entries c.insert.new.self.entries c.args.digest c.args.block (λ q. c.in_ok-insert.ensures.updates.0 q))
