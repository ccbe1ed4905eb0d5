-- The signatures that Ed25519 accepts (RFC 8032, 5.1.7, without the cofactor).
use Rattle.std.specs.Prelude.{ℕ, ◌+◌, ◌%◌, ◌^◌, ◌&&◌, Bool, false, Option, Some, None, List, ◌++◌, take, slice_range, nat_lt}
use Rattle.sha2.specs.Sha512.{sha512}
use Rattle.nw_curve.specs.Bytes.{number_from_bytes}
use Rattle.nw_codec.specs.Same.{same_bytes}
use Rattle.nw_codec.specs.declared.certificate.Signature.{Signature}
use Rattle.nw_committee.specs.declared.member.Key.{Key}
use Rattle.nw_curve.specs.Coding.{decoded, encoded}
use Rattle.nw_curve.specs.Curve.{base, added, negated, multiple}
use Rattle.nw_curve.specs.declared.curve.point.Point.{Point}

-- L, the order of the base point
unfoldable pub order : ℕ
order = 2 ^ 252 + 27742317777372353535851937790883648493

-- k: SHA-512 of R, the key and the text, as a number modulo the order
unfoldable pub challenge : List ℕ → List ℕ → List ℕ → ℕ
challenge r key text = number_from_bytes (sha512 (r ++ (key ++ text))) % order

-- the encoding of [s]B - [k]A
unfoldable pub expected : ℕ → ℕ → Point → List ℕ
expected s k a = encoded (added (multiple 253 s base) (negated (multiple 253 k a)))

-- the key is a point A, and R is the encoding of [s]B - [k]A
abbrev pub is_expected : List ℕ → ℕ → ℕ → Option Point → Bool
is_expected r s k None = false
is_expected r s k (Some a) = same_bytes r (expected s k a)

-- the signature is R and s, of 32 bytes each; s is below the order, and R is the expected encoding
unfoldable pub accepts : Key → List ℕ → Signature → Bool
accepts key text signature =
    let r = take 32 signature.0 in
    let s = number_from_bytes (slice_range signature.0 32 64) in
    nat_lt s order && is_expected r s (challenge r key.0 text) (decoded key.0)
