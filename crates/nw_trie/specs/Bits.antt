-- The bits of a digest. Bit 0 is the highest bit of the first byte.
use Rattle.std.specs.Prelude.{◌≡◌, ℕ, ◌+◌, ◌-◌, ◌/◌, ◌%◌, ◌^◌, ◌<◌, Bool, ◌==◌, List}
use Rattle.std.proofs.Common.{get_or}
use Rattle.nw_digest.specs.declared.digest.Digest.{Digest}

-- whether bit k of a byte is set; bit 0 is the highest
abbrev pub byte_bit : ℕ → ℕ → Bool
byte_bit x k = x / 2 ^ (7 - k) % 2 == 1

-- whether bit i of a list of bytes is set
abbrev pub list_bit : List ℕ → ℕ → Bool
list_bit bytes i = byte_bit (get_or bytes (i / 8) 0) (i % 8)

-- whether bit i of a digest is set
abbrev pub bit_of : Digest → ℕ → Bool
bit_of d i = list_bit d.0 i

-- both digests have the same bits before bit i
abbrev pub AgreeBelow : ℕ → Digest → Digest → Type 0
AgreeBelow i a b = (j : ℕ) → j < i → bit_of a j ≡ bit_of b j

-- i is the first bit at which the digests differ
pub record DifferFirst (i : ℕ) (a b : Digest) : Type 0 where
  -- the bits before it are the same
  pub same : AgreeBelow i a b
  -- bit i is not the same
  pub differ : bit_of a i ≡ bit_of b i → ⊥

-- the digests differ at most in their last n bits
abbrev pub AgreeButLast : ℕ → Digest → Digest → Type 0
AgreeButLast n a b = (j : ℕ) → j + n < 256 → bit_of a j ≡ bit_of b j
