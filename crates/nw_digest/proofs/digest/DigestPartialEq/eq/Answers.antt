use Rattle.std.proofs.Common.{◌≡◌, ◌<◌, ℕ, true, false, get_or, arith}
use Rattle.std.specs.Bool.{MatchBool}
use Rattle.nw_digest.proofs.Bytes.{same_bytes, test_is_bytes_eq}
use Rattle.nw_digest.proofs.digest.DigestPartialEq.eq.Goals as goal

pub returns : goal.returns
returns c =
    let a = c.args.self.now.0 in
    let b = c.args.other.now.0 in
    test_is_bytes_eq c.loop-index.same a b (elim c.loop-index.same as (λ same. MatchBool same ((k : ℕ) → k < c.loop-index.index → get_or a k 0 ≡ get_or b k 0) (a ≡ b → ⊥) → MatchBool same (a ≡ b) (a ≡ b → ⊥)) [
      | true ↦ λ h. same_bytes a b (omega arith) (omega arith) (λ k low. h k (omega arith))
      | false ↦ λ h. h
    ] c.loop-index.invariant)
