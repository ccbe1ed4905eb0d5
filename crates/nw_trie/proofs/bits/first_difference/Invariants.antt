use Rattle.nw_trie.proofs.Words.{◌≡◌, ◌<◌, ℕ, get_or}
use Rattle.nw_trie.proofs.bits.first_difference.Given as goal

abbrev pub invariant-loop-index : goal.invariant-loop-index
invariant-loop-index l = (k : ℕ) → k < l.index → get_or l.a.0 k 0 ≡ get_or l.b.0 k 0
