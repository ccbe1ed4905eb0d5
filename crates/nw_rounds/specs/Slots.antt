-- Two maps from slots to digests.
use Rattle.std.specs.Prelude.{◌≡◌, ◌↔◌, ◌⊎◌, ℕ, ◌<◌, ◌≤◌, List, Some, IsSome, Contains, refl}
use Rattle.std.specs.Coded.{Coded, code_by, coded×, coded_ℕ}
use Rattle.std.specs.List.Sorted.{IsStrictlySortedBy}
use Rattle.std.specs.Ordering.{nat_cmp}
use Rattle.std.specs.FinMap as map
use Rattle.std.specs.FinMap.{FinMap, empty, get}
use Rattle.nw_digest.specs.Codes.{coded_digest}
use Rattle.nw_digest.specs.Order.{digest_cmp, Slot, slot_cmp}
use Rattle.nw_digest.specs.declared.digest.Digest.{Digest}

-- the first and the certified digests, by slot
pub record Tables : Type 0 where
  -- the first digest of each slot
  pub firsts : FinMap slot_cmp Digest
  -- the certified digest of each slot
  pub certified : FinMap slot_cmp Digest

-- no digests
abbrev pub no_digests : Tables
no_digests = record { firsts = empty; certified = empty }

-- the digest is the first or the certified one of some slot of the round
abbrev pub IsDigestAt : Tables → ℕ → Digest → Type 0
IsDigestAt t round d = (author : ℕ) × ((get t.firsts (round, author) ≡ Some d) ⊎ (get t.certified (round, author) ≡ Some d))

-- the slot has a first or a certified digest
abbrev pub HasDigest : Tables → Slot → Type 0
HasDigest t slot = IsSome (get t.firsts slot) ⊎ IsSome (get t.certified slot)

-- the list of the authors with a first or a certified digest in the round
pub record AreAuthorsAt (t : Tables) (round : ℕ) (authors : List ℕ) : Type 0 where
  -- an author is listed exactly when it has one
  pub exactly : (author : ℕ) → Contains authors author ↔ HasDigest t (round, author)
  -- ascending, each once
  pub ascending : IsStrictlySortedBy nat_cmp authors

-- the newest round with a first or a certified digest, or this one if none is newer
pub record IsNewest (t : Tables) (least round : ℕ) : Type 0 where
  -- it is not below the one that is given
  pub least_first : least ≤ round
  -- no digest is above it
  pub last : (slot : Slot) → HasDigest t slot → slot.0 ≤ round
  -- it is the one that is given, or has a digest
  pub some : (round ≡ least) ⊎ ((author : ℕ) × HasDigest t (round, author))

-- the list of the digests of the rounds from..to
pub record AreDigestsBetween (t : Tables) (from to : ℕ) (digests : List Digest) : Type 0 where
  -- a digest is listed exactly when it is one of these
  pub exactly : (d : Digest) → Contains digests d ↔ ((round : ℕ) × (from ≤ round) × (round < to) × IsDigestAt t round d)
  -- ascending, each once
  pub ascending : IsStrictlySortedBy digest_cmp digests

-- the list has each digest of each round, first and certified
abbrev pub HasAllDigests : Tables → List Digest → Type 0
HasAllDigests t digests = (round : ℕ) (d : Digest) → IsDigestAt t round d → Contains digests d

-- the code of these digests: if the codes are equal, so are the digests
abbrev pub coded_tables : Coded Tables
coded_tables =
    code_by (FinMap slot_cmp Digest × FinMap slot_cmp Digest)
    (coded× (map.code (coded× coded_ℕ coded_ℕ) coded_digest) (map.code (coded× coded_ℕ coded_ℕ) coded_digest))
    (λ t. (t.firsts, t.certified)) (λ p. record { firsts = p.0; certified = p.1 }) (λ _. refl)
