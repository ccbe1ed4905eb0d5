use Rattle.nw_generation.proofs.Words.{sym, ◌∙◌}
use Rattle.std.proofs.Common.{rules}
use Rattle.nw_generation.proofs.Slotted.{slot_answers}
use Rattle.nw_generation.proofs.slots.Slots.get.Goals as goal

pub returns-then-eq : goal.returns-then-eq
returns-then-eq c entries are =
    slot_answers c.args.self.now.slots.items entries c.in_ok-place.place c.in_ok-slot.slot.now c.args.digest.now are (search rules) (search rules) (sym c.if-eq.true ∙ c.eq.ensures)
