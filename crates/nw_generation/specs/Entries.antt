-- Blocks under their digests, ascending.
use Rattle.std.specs.Prelude.{◌≡◌, ℕ, ◌+◌, ◌<◌, ◌/◌, ◌%◌, List, [], ◌∷◌, Option, length, map, take}
use Rattle.std.specs.declared.cmp.Ordering.TheVariants.{Less}
use Rattle.std.specs.BTreeMap.{is_at}
use Rattle.std.specs.List.{AllByRecursion}
use Rattle.std.specs.List.Sorted.{IsStrictlySortedBy}
use Rattle.std.specs.Map.{keys_of, lookup}
use Rattle.std.specs.Option.{option_or}
use Rattle.nw_digest.specs.declared.digest.Digest.{Digest}
use Rattle.nw_codec.specs.declared.block.Block.{Block}
use Rattle.nw_digest.specs.Order.{digest_cmp}

-- the digests ascend strictly
abbrev pub Ascend : List (Digest × Block) → Type 0
Ascend entries = IsStrictlySortedBy digest_cmp (keys_of entries)

-- the number as two bytes, big-endian
abbrev pub bytes_of : ℕ → List ℕ
bytes_of n = n / 256 ∷ n % 256 ∷ []

-- the head is the first two bytes of the digest, as a number
abbrev pub IsHead : ℕ → Digest → Type 0
IsHead head d = bytes_of head ≡ take 2 d.0

-- these are the heads of the entries, in order
abbrev pub AreHeads : List ℕ → List (Digest × Block) → Type 0
AreHeads heads entries = map bytes_of heads ≡ map (λ e. take 2 e.0.0) entries

-- the digest comes before those of all entries
abbrev pub ComesBeforeAll : Digest → List (Digest × Block) → Type 0
ComesBeforeAll d entries = AllByRecursion (λ k. digest_cmp d k ≡ Less) (keys_of entries)

-- the block under the digest, if the entries have one
abbrev pub under : List (Digest × Block) → Digest → Option Block
under entries d = lookup (is_at (digest_cmp d)) entries

-- a step of a merge: the first entry of both lists, and the remaining entries of each
pub record IsNext (newer older : List (Digest × Block)) (first : Digest × Block) (newer_left older_left : List (Digest × Block)) : Type 0 where
  -- under each digest, the entry and the remaining ones have the same block as both lists
  pub same : (d : Digest) → option_or (under newer d) (under older d) ≡ option_or (under (first ∷ []) d) (option_or (under newer_left d) (under older_left d))
  -- the entry comes before the remaining ones of the newer list
  pub before_newer : ComesBeforeAll first.0 newer_left
  -- and before those of the older list
  pub before_older : ComesBeforeAll first.0 older_left
  -- the remaining entries of the newer list ascend
  pub newer_ascend : Ascend newer_left
  -- and so do those of the older list
  pub older_ascend : Ascend older_left
  -- a digest that comes before both lists also comes before the entry and the remaining ones
  pub above : (d : Digest) → ComesBeforeAll d newer → ComesBeforeAll d older → ComesBeforeAll d (first ∷ []) × ComesBeforeAll d newer_left × ComesBeforeAll d older_left
  -- there are fewer entries left
  pub fewer : length newer_left + length older_left < length newer + length older
