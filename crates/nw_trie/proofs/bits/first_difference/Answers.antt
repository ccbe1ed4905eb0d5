use Rattle.nw_trie.proofs.Words.{arith}
use Rattle.nw_trie.proofs.DigestBits.{same_digest}
use Rattle.nw_trie.proofs.bits.first_difference.Goals as goal

pub returns : goal.returns
returns c = same_digest c.args.a.now c.args.b.now (omega arith) (omega arith) (λ k h. c.loop-index.invariant k (omega arith))
