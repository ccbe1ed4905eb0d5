use Rattle.nw_trie.proofs.Words.{◌≡◌, ◌+◌, ap, length, arith}
use Rattle.nw_trie.proofs.Removals.{removed}
use Rattle.nw_trie.proofs.trie.Trie.remove.Goals as goal

pub invariant_of-self : goal.invariant_of-self
invariant_of-self g c =
    let count = removed _ c.args.self.now c.self.inside.tree c.remove.new.self c.remove.result c.self.view_is c.remove.ensures.value c.remove.ensures.entries in
    let none : length c.remove.new.self + 0 ≡ length c.args.self.now = rw c.in_err-value.was at count in
    omega (arith, none, c.self.invariant, ap length c.self.view_is)

pub returns-in_err-value-clause-len : goal.returns-in_err-value-clause-len
returns-in_err-value-clause-len g c =
    let count = removed _ c.args.self.now c.self.inside.tree c.remove.new.self c.remove.result c.self.view_is c.remove.ensures.value c.remove.ensures.entries in
    rw c.from_residual.ensures (rw c.in_err-value.was at count)

pub invariant_of-self-2 : goal.invariant_of-self-2
invariant_of-self-2 g c =
    let count = removed _ c.args.self.now c.self.inside.tree c.remove.new.self c.remove.result c.self.view_is c.remove.ensures.value c.remove.ensures.entries in
    let one : length c.remove.new.self + 1 ≡ length c.args.self.now = rw c.in_ok-value.was at count in
    omega (arith, one, c.self.invariant, ap length c.self.view_is)

pub returns-clause-len : goal.returns-clause-len
returns-clause-len g c =
    let count = removed _ c.args.self.now c.self.inside.tree c.remove.new.self c.remove.result c.self.view_is c.remove.ensures.value c.remove.ensures.entries in
    rw c.in_ok-value.was at count
