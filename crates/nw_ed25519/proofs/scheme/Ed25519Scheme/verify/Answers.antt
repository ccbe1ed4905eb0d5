use Rattle.nw_ed25519.proofs.Words.{sym, ◌∙◌, ap, List, ℕ, same_bytes, take}
use Rattle.nw_ed25519.proofs.Remainders.{bits_below, challenge_bits}
use Rattle.nw_ed25519.proofs.Verdicts.{s_not_below_order, compared}
use Rattle.nw_ed25519.proofs.scheme.Ed25519Scheme.verify.Goals as goal

pub returns-then-not-is_below : goal.returns-then-not-is_below
returns-then-not-is_below c =
    s_not_below_order c.args.key.now c.args.text.now c.args.signature.now c.from_bytes-s.result c.the_order.result c.from_bytes-s.ensures.number c.the_order.ensures (sym c.is_below.ensures ∙ c.if-not-is_below.true)

pub returns-in-Some : goal.returns-in-Some
returns-in-Some c =
    compared c.args.key.now c.args.text.now c.args.signature.now c.from_bytes-s.result c.the_order.result c.challenge.result c.in-Some.point c.expected.result c.eq.result
    c.from_bytes-s.ensures.number c.the_order.ensures (sym c.is_below.ensures ∙ c.if-not-is_below.false) (sym c.decoded.ensures ∙ c.in-Some.is) c.challenge.ensures (c.expected.ensures c.args.key.now.0 (sym c.decoded.ensures ∙ c.in-Some.is))
    (c.eq.ensures ∙ ap (λ (bytes : List ℕ). same_bytes (take 32 c.args.signature.now.0) bytes) c.as_slice.ensures)

pub expected-requires-clause-s : goal.expected-requires-clause-s
expected-requires-clause-s c = bits_below c.from_bytes-s.result c.the_order.result c.the_order.ensures (sym c.is_below.ensures ∙ c.if-not-is_below.false)

pub expected-requires-clause-k : goal.expected-requires-clause-k
expected-requires-clause-k c = rw c.challenge.ensures (challenge_bits (take 32 c.args.signature.now.0) c.args.key.now.0 c.args.text.now)
