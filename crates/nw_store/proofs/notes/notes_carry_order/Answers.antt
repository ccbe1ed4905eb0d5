use Rattle.nw_store.proofs.notes.notes_carry_order.Goals as goal

pub returns : goal.returns
returns c = λ accepts first second note noted heard. second.answered.heard first.front (heard first.front (noted first.front first.answered.knows))
