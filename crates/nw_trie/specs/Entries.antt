-- Entries: digests with values.
use Rattle.std.specs.Prelude.{◌≡◌, ℕ, ◌+◌, ◌<◌, List, [], ◌∷◌, ◌++◌, ◌⊎◌, length, true, false}
use Rattle.std.specs.List.{AllByRecursion}
use Rattle.std.specs.List.Sorted.{IsStrictlySortedBy}
use Rattle.std.specs.Map.{keys_of}
use Rattle.nw_digest.specs.declared.digest.Digest.{Digest}
use Rattle.nw_digest.specs.Order.{digest_cmp}
use Rattle.nw_digest.specs.Bytes.{AreBytes}
use Rattle.nw_trie.specs.Bits.{AgreeBelow, bit_of}

-- P holds for the digest of each entry
abbrev pub EachKey : {V : Type 0} → (Digest → Type 0) → List (Digest × V) → Type 0
EachKey P es = AllByRecursion (λ e. P e.0) es

-- P holds for the digest of some entry
abbrev pub SomeKey : {V : Type 0} → (Digest → Type 0) → List (Digest × V) → Type 0
SomeKey P [] = ⊥
SomeKey P (e ∷ es) = P e.0 ⊎ SomeKey P es

-- some entry has this digest
abbrev pub HasKey : {V : Type 0} → Digest → List (Digest × V) → Type 0
HasKey d es = SomeKey (λ k. k ≡ d) es

-- the entries of a trie
pub record AreEntries {V : Type 0} (es : List (Digest × V)) : Type 0 where
  -- their digests ascend strictly
  pub ascending : IsStrictlySortedBy digest_cmp (keys_of es)
  -- each digest consists of bytes
  pub bytes : EachKey (λ d. AreBytes d.0) es

-- these are the two sides of a fork at this bit
pub record IsFork {V : Type 0} (bit : ℕ) (left right : List (Digest × V)) : Type 0 where
  -- the left side has entries
  pub left_nonempty : 0 < length left
  -- the right side has entries
  pub right_nonempty : 0 < length right
  -- on the left the bit is not set
  pub unset : EachKey (λ d. bit_of d bit ≡ false) left
  -- on the right it is set
  pub set : EachKey (λ d. bit_of d bit ≡ true) right
  -- a digest with the bits that all entries share before the fork's bit
  pub front : Digest
  -- before the bit, all digests have the same bits
  pub agree : EachKey (λ d. AgreeBelow bit front d) (left ++ right)

-- a new digest d belongs beside the entries that share all its bits before this one
pub record BranchesAt {V : Type 0} (d : Digest) (bit : ℕ) (es : List (Digest × V)) : Type 0 where
  -- some entry shares all bits of d before this one
  pub near : SomeKey (AgreeBelow bit d) es
  -- no entry shares these bits and also this bit
  pub apart : EachKey (λ k. AgreeBelow (bit + 1) d k → ⊥) es

-- the entries are the two sides of a fork at this bit
pub record ForksAt {V : Type 0} (bit : ℕ) (es : List (Digest × V)) : Type 0 where
  -- it is one of the 256 bits of a digest
  pub low : bit < 256
  -- the entries with the bit unset
  pub left : List (Digest × V)
  -- the entries with the bit set
  pub right : List (Digest × V)
  -- together they are all entries
  pub is : es ≡ left ++ right
  -- they are the sides of a fork
  pub fork : IsFork bit left right
