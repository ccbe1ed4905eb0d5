use Rattle.nw_plain.proofs.Collected.{collected, kept_collected}
use Rattle.nw_plain.proofs.plain.Plain.raise.Goals as goal

pub invariant_of-self : goal.invariant_of-self
invariant_of-self c =
    kept_collected c.self.inside.blocks.entries c.retain_blocks.new.blocks.entries c.self.inside.certificates.entries c.retain_certificates.new.certificates.entries
    c.self.inside.firsts.entries c.retain_slots.new.slots.entries c.self.inside.floor c.args.round
    c.retain_blocks.ensures.kept c.retain_blocks.ensures.ordered c.retain_certificates.ensures.kept c.retain_certificates.ensures.ordered c.retain_slots.ensures
    c.self.inside.certified.entries c.retain_slots-2.new.slots.entries c.retain_slots-2.ensures c.self.invariant

pub returns-clause-state : goal.returns-clause-state
returns-clause-state c =
    rw (← c.self.view_is)
    (collected c.self.inside.blocks.entries c.retain_blocks.new.blocks.entries c.self.inside.certificates.entries c.retain_certificates.new.certificates.entries
    c.self.inside.firsts.entries c.retain_slots.new.slots.entries c.self.inside.floor c.args.round
    c.retain_blocks.ensures.kept c.retain_blocks.ensures.ordered c.retain_certificates.ensures.kept c.retain_certificates.ensures.ordered c.retain_slots.ensures)
