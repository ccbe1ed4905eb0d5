use Rattle.nw_trie.proofs.Words.{◌∙◌, refl, sym, ap}
use Rattle.nw_trie.specs.Bits.{bit_of}
use Rattle.nw_trie.proofs.Sides.{at_Fork}
use Rattle.nw_trie.proofs.Grafts.{fits_key, grown_side}
use Rattle.nw_trie.proofs.Descents.{alike_side, key_side, lookup_side, same_bit}
use Rattle.nw_trie.proofs.tree.Tree.side_value_mut.Goals as goal

pub value_mut-requires-clause-key : goal.value_mut-requires-clause-key
value_mut-requires-clause-key g c =
    let fork = at_Fork c.self.view_is c.self.invariant c.in-Fork-link.is (c.deref_mut.ensures.value ∙ ap (λ b. b.value) c.in-Fork-link.sides-is) in
    let set = c.is_set-set.ensures.bit ∙ ap (bit_of c.args.digest.now) (same_bit c.in-Fork.is c.in-Fork-link.is) in
    key_side c.deref_mut.result.now fork c.args.digest.now c.requires.key c.is_set-set.result set

pub value_mut-requires-clause-alike : goal.value_mut-requires-clause-alike
value_mut-requires-clause-alike g c =
    let fork = at_Fork c.self.view_is c.self.invariant c.in-Fork-link.is (c.deref_mut.ensures.value ∙ ap (λ b. b.value) c.in-Fork-link.sides-is) in
    let set = c.is_set-set.ensures.bit ∙ ap (bit_of c.args.digest.now) (same_bit c.in-Fork.is c.in-Fork-link.is) in
    alike_side c.deref_mut.result.now fork c.args.digest.now c.requires.key g.W.Way.bits c.requires.alike c.is_set-set.result set

pub invariant_of-self-lent : goal.invariant_of-self-lent
invariant_of-self-lent g c = λ w.
    let s = c.deref_mut.result.now in
    let fork = at_Fork c.self.view_is c.self.invariant c.in-Fork-link.is (c.deref_mut.ensures.value ∙ ap (λ b. b.value) c.in-Fork-link.sides-is) in
    let set = c.is_set-set.ensures.bit ∙ ap (bit_of c.args.digest.now) (same_bit c.in-Fork.is c.in-Fork-link.is) in
    let grown = grown_side s fork c.args.digest.now w (fits_key fork c.args.digest.now c.requires.key) c.is_set-set.ensures.bytes c.is_set-set.result set _ refl in
    rw c.in-Fork-link.is (grown.fork, grown.all)

pub returns : goal.returns
returns g c =
    let s = c.deref_mut.result.now in
    let fork = at_Fork c.self.view_is c.self.invariant c.in-Fork-link.is (c.deref_mut.ensures.value ∙ ap (λ b. b.value) c.in-Fork-link.sides-is) in
    let set = c.is_set-set.ensures.bit ∙ ap (bit_of c.args.digest.now) (same_bit c.in-Fork.is c.in-Fork-link.is) in
    let grown = λ (w : g.row.V.Denot). grown_side s fork c.args.digest.now w (fits_key fork c.args.digest.now c.requires.key) c.is_set-set.ensures.bytes c.is_set-set.result set _ refl in (
      (refl, λ w. rw c.in-Fork-link.is (grown w).is),
      record { writes_back = tt; value = sym (lookup_side s fork c.args.digest.now c.is_set-set.result set) ∙ c.value_mut.ensures.value },
    )
