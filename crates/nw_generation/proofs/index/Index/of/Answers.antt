use Rattle.nw_generation.proofs.index.Index.of.Goals as goal

pub invariant_of-result : goal.invariant_of-result
invariant_of-result c = (rw c.deref.ensures.value at c.in_ok-heads_of.ensures, c.requires, rw c.deref-2.ensures.value at c.in_ok-of.ensures, rw c.deref-3.ensures.value at c.rounds_of.ensures)
