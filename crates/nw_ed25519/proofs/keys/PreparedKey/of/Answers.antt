use Rattle.nw_ed25519.proofs.Words.{decoded_point}
use Rattle.nw_ed25519.proofs.KeyCombs.{no_key, key_with_comb}
use Rattle.nw_ed25519.proofs.keys.PreparedKey.of.Goals as goal
use Rattle.nw_ed25519.proofs.keys.PreparedKey.of.Goals.{in-None, in-Some+in_ok-of-in-Some}

pub invariant_of-result : goal.invariant_of-result
invariant_of-result c = elim c.match-decoded.branch [
  | in-None w ↦ let t = no_key _ _ _ c.decoded.ensures w.in-None.is w.comb-is in record { bits = t.0; rows = t.1 }
  | in-Some+in_ok-of-in-Some w ↦
      let t = key_with_comb _ _ w.in-Some.point _ _ _ c.decoded.ensures w.in-Some.is w.negated.ensures (decoded_point c.args.key.0) w.comb-is w.in_ok-of-in-Some.ensures.0 w.in_ok-of-in-Some.ensures.1 in
      record { bits = t.0; rows = t.1 }
]
