use Rattle.nw_trie.proofs.Words.{◌≡◌, ◌∙◌, ◌+◌, ◌-◌, ◌*◌, ◌/◌, ◌^◌, ap, arith}
use Rattle.nw_digest.proofs.Bytes.{byte_below}
use Rattle.nw_trie.proofs.Fronts.{first_bits, front}
use Rattle.nw_trie.proofs.map.place.Goals as goal

pub returns-clause-place : goal.returns-clause-place
returns-clause-place c =
    let read : (c.from.result * 256 + c.from-2.result) * 256 + c.from-3.result ≡ front c.args.digest.now = omega (arith, c.from.ensures, c.from-2.ensures, c.from-3.ensures) in
    ap (λ n. n / 2 ^ (24 - c.args.bits)) read ∙ first_bits c.args.digest.now (byte_below c.args.digest.now.0 c.note_bytes.ensures) c.args.bits (24 - c.args.bits) (omega (arith, c.requires))
