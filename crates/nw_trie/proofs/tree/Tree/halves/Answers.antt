use Rattle.nw_trie.proofs.Words.{◌∙◌, ◌≡◌, true, false, sym, ap, subst}
use Rattle.nw_trie.specs.Bits.{bit_of}
use Rattle.nw_trie.specs.Entries.{EachKey}
use Rattle.nw_trie.specs.Tree.{entries_of}
use Rattle.nw_trie.proofs.Halves.{alike_there, other_fork}
use Rattle.nw_trie.proofs.Sides.{at_Fork}
use Rattle.nw_trie.proofs.tree.Tree.halves.Goals as goal

pub beside_none-requires-then-at-bit : goal.beside_none-requires-then-at-bit
beside_none-requires-then-at-bit g c =
    let fork = sym c.replace.ensures.value ∙ c.in-Fork.is in
    let shared = alike_there c.self.inside.link c.args.self c.self.view_is c.self.invariant c.args.bit (other_fork fork c.if-at-bit.true) c.requires in
    (shared.0, subst (EachKey (λ d. bit_of d c.args.bit ≡ shared.0)) (sym c.self.view_is ∙ ap entries_of fork) shared.1)

pub returns-clause-unset : goal.returns-clause-unset
returns-clause-unset g c =
    let fork = at_Fork c.self.view_is c.self.invariant (sym c.replace.ensures.value ∙ c.in-Fork.is) c.into_inner-left.ensures in
    subst (λ bit. EachKey (λ d. bit_of d bit ≡ false) c.into_inner-left.result.left) c.if-at-bit.false fork.fork.unset

pub returns-clause-set : goal.returns-clause-set
returns-clause-set g c =
    let fork = at_Fork c.self.view_is c.self.invariant (sym c.replace.ensures.value ∙ c.in-Fork.is) c.into_inner-left.ensures in
    subst (λ bit. EachKey (λ d. bit_of d bit ≡ true) c.into_inner-left.result.right) c.if-at-bit.false fork.fork.set
