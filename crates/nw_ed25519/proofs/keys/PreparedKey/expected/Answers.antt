use Rattle.nw_ed25519.proofs.Words.{refl, sym, ◌∙◌, same_bytes, take, decoded, encoded}
use Rattle.nw_ed25519.proofs.Remainders.{bits_below, challenge_bits}
use Rattle.nw_ed25519.proofs.Verdicts.{s_not_below_order, compared, not_a_point, no_comb, comb_of_point, comb_bits}
use Rattle.nw_ed25519.proofs.keys.PreparedKey.expected.Goals as goal

pub returns-then-not-is_below : goal.returns-then-not-is_below
returns-then-not-is_below c =
    sym (s_not_below_order c.args.self.now.key c.args.text.now c.args.signature.now c.from_bytes-s.result c.the_order.result c.from_bytes-s.ensures.number c.the_order.ensures (sym c.is_below.ensures ∙ c.if-not-is_below.true))

pub expected_by_combs-requires-clause-s : goal.expected_by_combs-requires-clause-s
expected_by_combs-requires-clause-s c = bits_below c.from_bytes-s.result c.the_order.result c.the_order.ensures (sym c.is_below.ensures ∙ c.if-not-is_below.false)

pub expected_by_combs-requires-clause-k : goal.expected_by_combs-requires-clause-k
expected_by_combs-requires-clause-k c = rw c.challenge-k.ensures (challenge_bits (take 32 c.args.signature.now.0) c.args.self.now.key.0 c.args.text.now)

pub returns-in-None : goal.returns-in-None
returns-in-None c =
    let key = c.args.self.now.key in
    sym (not_a_point key c.args.text.now c.args.signature.now (no_comb (decoded key.0) c.args.self.now.comb c.args.self.now.rows c.in-None.is))

pub returns-in-Some : goal.returns-in-Some
returns-in-Some c =
    let key = c.args.self.now.key in
    let of = comb_of_point (decoded key.0) c.args.self.now.comb c.in-Some.comb c.args.self.now.rows c.in-Some.is in
    let q = c.expected_by_combs.result in
    let by = c.expected_by_combs.ensures key.0 of.0 of.1.0 c.args.base.now.bits (comb_bits c.args.self.now.comb c.in-Some.comb c.args.self.now.bits c.in-Some.is) c.args.base.now.rows of.1.1 in (
      by.0,
      sym (compared key c.args.text.now c.args.signature.now c.from_bytes-s.result c.the_order.result c.challenge-k.result of.0 (encoded q) (same_bytes (take 32 c.args.signature.now.0) (encoded q))
          c.from_bytes-s.ensures.number c.the_order.ensures (sym c.is_below.ensures ∙ c.if-not-is_below.false) of.1.0 c.challenge-k.ensures by.1 refl),
    )
