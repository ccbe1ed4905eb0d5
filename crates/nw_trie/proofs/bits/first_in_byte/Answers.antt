use Rattle.nw_trie.proofs.Words.{◌≡◌, arith, inl, inr, cases_lt}
use Rattle.nw_trie.proofs.ByteBits.{same_byte}
use Rattle.nw_trie.proofs.bits.first_in_byte.Goals as goal

pub returns-clause-differ : goal.returns-clause-differ
returns-clause-differ c = λ last.
    c.requires (same_byte c.args.a c.args.b (omega arith) (omega arith) (λ j h. elim (cases_lt j 7) [
      | inl before ↦ c.loop-bit.invariant j (omega arith)
      | inr at ↦ let is : j ≡ 7 = omega arith in rw is last
    ]))
