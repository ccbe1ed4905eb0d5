-- The results of a verification.
use Rattle.nw_ed25519.proofs.Words.{◌≡◌, ℕ, Bool, true, false, List, Option, Some, None, refl, rules, nat_lt, number_from_bytes, same_bytes, decoded, Point, negated}
use Rattle.std.proofs.Common.{take}
use Rattle.std.specs.Prelude.{slice_range}
use Rattle.nw_codec.specs.declared.certificate.Signature.{Signature}
use Rattle.nw_committee.specs.declared.member.Key.{Key}
use Rattle.nw_ed25519.specs.Comb.{rows}
use Rattle.nw_ed25519.specs.Prepared.{key_rows, entries_of, bits_of}
use Rattle.nw_ed25519.specs.declared.comb.Comb.{Comb}
use Rattle.nw_ed25519.specs.Accepts.{order, challenge, expected, accepts}

-- s is not below the order: the signature is not accepted
pub s_not_below_order : (key : Key) (text : List ℕ) (signature : Signature) (s o : ℕ) → s ≡ number_from_bytes (slice_range signature.0 32 64) → o ≡ order → nat_lt s o ≡ false → false ≡ accepts key text signature
unfolding accepts
s_not_below_order key text signature s o es eo h =
    let k = rw (es, eo) at h in
    rw k refl

-- s is below the order and the key is a point: R is compared with the expected encoding
pub compared : (key : Key) (text : List ℕ) (signature : Signature) (s o k : ℕ) (point : Point) (bytes : List ℕ) (answer : Bool)
    → s ≡ number_from_bytes (slice_range signature.0 32 64) → o ≡ order → nat_lt s o ≡ true → decoded key.0 ≡ Some point → k ≡ challenge (take 32 signature.0) key.0 text
    → bytes ≡ expected s k point → answer ≡ same_bytes (take 32 signature.0) bytes → answer ≡ accepts key text signature
unfolding accepts
compared key text signature s o k point bytes answer es eo h d ek eb ea =
    let l = rw (es, eo) at h in
    rw (ea, eb, ek, es, l, d) refl

-- the key is no point
pub not_a_point : (key : Key) (text : List ℕ) (signature : Signature) → decoded key.0 ≡ None → false ≡ accepts key text signature
unfolding accepts
not_a_point key text signature d = rw d (search rules)

-- a prepared key without a comb is no point
pub no_comb : (o : Option Point) (comb : Option Comb) → entries_of comb ≡ key_rows o → comb ≡ None → o ≡ None
no_comb None comb e h = refl
no_comb (Some p) comb e h = let k = rw h at e in cc

-- a comb of a prepared key is that of the key's point
pub comb_of_point : (o : Option Point) (comb : Option Comb) (c : Comb) → entries_of comb ≡ key_rows o → comb ≡ Some c → (p : Point) × ((o ≡ Some p) × (c.entries.items ≡ rows 1 16 (negated p)))
comb_of_point None comb c e h = let k = rw h at e in absurd (cc)
comb_of_point (Some p) comb c e h = let k = rw h at e in (p, (refl, (cc)))

-- the bits of a digit of such a comb
pub comb_bits : (comb : Option Comb) (c : Comb) → bits_of comb ≡ 4 → comb ≡ Some c → c.bits ≡ 4
comb_bits comb c e h = rw h at e
