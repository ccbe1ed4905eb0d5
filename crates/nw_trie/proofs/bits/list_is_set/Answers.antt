use Rattle.nw_trie.proofs.Words.{ℕ}
use Rattle.nw_digest.proofs.Bytes.{are_bytes}
use Rattle.nw_trie.proofs.bits.list_is_set.Goals as goal

pub returns-clause-bytes : goal.returns-clause-bytes
returns-clause-bytes c = are_bytes c.args.bytes.now (λ (k : ℕ). c.type_inv.bytes k)
