use Rattle.nw_trie.proofs.Words.{◌∙◌, ◌∷◌, sym, ap, arith, length, subst, deref_pair}
use Rattle.nw_trie.specs.After.{IsNextIn, entries_from}
use Rattle.nw_trie.proofs.After.{from_after}
use Rattle.nw_trie.proofs.iter.IterIterator.next.Goals as goal

pub invariant_of-self : goal.invariant_of-self
invariant_of-self g c =
    let left = subst (IsNextIn c.self.inside.tree.now) c.in_ok-digest.was c.self.invariant in
    (from_after c.in_ok-digest.digest.now c.self.inside.tree.now c.after-self-inside.result c.after-self-inside.ensures left.1).1

pub returns-clause-steps : goal.returns-clause-steps
returns-clause-steps g c =
    let left = subst (IsNextIn c.self.inside.tree.now) c.in_ok-digest.was c.self.invariant in
    let rest = (from_after c.in_ok-digest.digest.now c.self.inside.tree.now c.after-self-inside.result c.after-self-inside.ensures left.1).0 in
    sym c.self.view_is ∙ ap (entries_from c.self.inside.tree.now) c.in_ok-digest.was ∙ ap (λ es. deref_pair (c.in_ok-digest.digest, c.in_ok-digest.value) ∷ es) (sym rest)

pub returns-clause-goes : goal.returns-clause-goes
returns-clause-goes g c =
    let steps = ap length (returns-clause-steps g c) in
    record { on = λ f. (tt, tt, omega (arith, steps)); keeps = tt; rests = λ f. tt }
