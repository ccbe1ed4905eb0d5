use Rattle.nw_plain.proofs.Words.{◌≡◌, rules, slots_total, slots_apart, maps_decide, other_length, same_digest_decides}
use Rattle.nw_model.proofs.Sames.{same_slot_decides, same_slots}
use Rattle.nw_plain.proofs.plain.sameness.are_same_slots.Goals as goal

pub returns-then-len : goal.returns-then-len
returns-then-len c =
    let answer : c.eq.result ≡ same_slots c.args.one.now.entries c.args.other.now.entries = search rules in
    maps_decide slots_total slots_apart c.args.one.now c.args.other.now c.len.ensures.ordered c.len-2.ensures.ordered same_slot_decides same_digest_decides c.eq.result answer

pub returns-else-len : goal.returns-else-len
returns-else-len c = other_length slots_total slots_apart c.args.one.now c.args.other.now c.len.ensures.ordered c.len-2.ensures.ordered c.len.result c.len-2.result c.len.ensures.len c.len-2.ensures.len c.if-len.false
