use Rattle.nw_ed25519.proofs.Words.{sym, ◌∙◌, ap, List, ℕ, same_bytes, take}
use Rattle.nw_ed25519.proofs.keys.PreparedKey.verify.Goals as goal

pub returns-in-Some : goal.returns-in-Some
returns-in-Some c =
    c.eq.ensures ∙ (ap (λ (bytes : List ℕ). same_bytes (take 32 c.args.signature.now.0) bytes) (c.as_slice.ensures ∙ c.encoded.ensures) ∙ sym c.in-Some.ensures.1)
