-- Entries of values that have a round, before and after some are dropped.
use Rattle.std.specs.Prelude.{◌≡◌, ℕ, ◌<◌, ◌⊎◌, List, Option, Some, None, Contains}
use Rattle.std.specs.List.Sorted.{IsStrictlySortedBy}
use Rattle.std.specs.Map.{keys_of, lookup}
use Rattle.std.specs.BTreeMap.{is_at}
use Rattle.nw_digest.specs.declared.digest.Digest.{Digest}
use Rattle.nw_digest.specs.Order.{digest_cmp}

module _ {V : Type 0} (round_of : V → ℕ) (round : ℕ) where
  -- a value is found, and its round is below this one
  abbrev pub IsBelowRound : Option V → Type 0
  IsBelowRound found = (v : V) × (found ≡ Some v) × (round_of v < round)

  -- new is old without some values below the round, and without all such values of these digests
  pub record DropsBelow (digests : List Digest) (old new : List (Digest × V)) : Type 0 where
    -- each digest has its old value, or its old value was below the round and is dropped
    pub stays : (d : Digest) → (lookup (is_at (digest_cmp d)) new ≡ lookup (is_at (digest_cmp d)) old) ⊎ ((lookup (is_at (digest_cmp d)) new ≡ None) × IsBelowRound (lookup (is_at (digest_cmp d)) old))
    -- no value left under these digests is below the round
    pub gone : (d : Digest) → Contains digests d → IsBelowRound (lookup (is_at (digest_cmp d)) new) → ⊥
    -- the entries ascend strictly by digest
    pub ordered : IsStrictlySortedBy digest_cmp (keys_of new)
