use Rattle.nw_trie.proofs.Words.{◌∙◌, sym, arith}
use Rattle.nw_trie.proofs.Sides.{at_Fork}
use Rattle.nw_trie.proofs.Grafts.{key_left, key_right, sides_shorter}
use Rattle.nw_trie.proofs.After.{after_left, after_none, after_right}
use Rattle.nw_trie.proofs.tree.Tree.+after.Goals as goal

pub after-requires : goal.after-requires
after-requires g t c κs within =
    let fork = at_Fork c.self.view_is c.self.invariant c.in-Fork.is c.deref.ensures in
    let shorter = sides_shorter fork c.args.digest.now in
    (omega (arith, c.decreases, shorter.1), (within.0, (within.1, key_right fork c.args.digest.now c.requires (sym c.is_set.ensures.bit ∙ c.if-is_set.true))))

pub after-requires-2 : goal.after-requires-2
after-requires-2 g t c κs within =
    let fork = at_Fork c.self.view_is c.self.invariant c.in-Fork.is c.deref.ensures in
    let shorter = sides_shorter fork c.args.digest.now in
    (omega (arith, c.decreases, shorter.0), (within.0, (within.1, key_left fork c.args.digest.now c.requires (sym c.is_set.ensures.bit ∙ c.if-is_set.false))))

pub returns-then-is_set : goal.returns-then-is_set
returns-then-is_set g t c =
    let fork = at_Fork c.self.view_is c.self.invariant c.in-Fork.is c.deref.ensures in
    c.after.ensures ∙ after_right fork c.args.digest.now c.requires (sym c.is_set.ensures.bit ∙ c.if-is_set.true)

pub returns-in-Some : goal.returns-in-Some
returns-in-Some g t c =
    let fork = at_Fork c.self.view_is c.self.invariant c.in-Fork.is c.deref.ensures in
    sym (after_left fork c.args.digest.now c.requires _ (sym c.is_set.ensures.bit ∙ c.if-is_set.false) (sym c.in-Some.ensures))

pub returns : goal.returns
returns g t c =
    let fork = at_Fork c.self.view_is c.self.invariant c.in-Fork.is c.deref.ensures in
    c.first.ensures.first ∙ sym (after_none fork c.args.digest.now c.requires (sym c.is_set.ensures.bit ∙ c.if-is_set.false) (sym c.in_default-after.ensures))
