use Rattle.nw_trie.proofs.Words.{◌≡◌, ◌<◌, ℕ}
use Rattle.nw_trie.specs.Bits.{byte_bit}
use Rattle.nw_trie.proofs.bits.first_in_byte.Given as goal

abbrev pub invariant-loop-bit : goal.invariant-loop-bit
invariant-loop-bit l = (j : ℕ) → j < l.bit → byte_bit l.a j ≡ byte_bit l.b j
