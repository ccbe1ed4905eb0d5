-- The demonstration scheme.
use Rattle.std.specs.Prelude.{◌≡◌, ℕ, Bool, true, List, ◌++◌}
use Rattle.std.proofs.Common.{ap}
use Rattle.std.specs.Cmp.Lexicographic.{bytes_decides}
use Rattle.sha2.specs.Sha256.{sha256}
use Rattle.nw_codec.specs.Same.{same_bytes}
use Rattle.nw_codec.specs.declared.certificate.Signature.{Signature}
use Rattle.nw_committee.specs.declared.member.Key.{Key}

-- SHA-256 of the key and the text, written twice
abbrev pub demo_signature : Key → List ℕ → Signature
demo_signature key text = record { 0 = sha256 (key.0 ++ text) ++ sha256 (key.0 ++ text) }

-- whether the signature is the one that belongs to the key and the text
abbrev pub demo_accepts : Key → List ℕ → Signature → Bool
demo_accepts key text signature = same_bytes signature.0 (demo_signature key text).0

-- the scheme accepts the signature that belongs to the key and the text
pub demo_signature-accepted : (key : Key) (text : List ℕ) (signature : Signature) → signature ≡ demo_signature key text → demo_accepts key text signature ≡ true
demo_signature-accepted key text signature e = (bytes_decides _ _).1 (ap (λ (s : Signature). s.0) e)
