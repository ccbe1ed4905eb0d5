-- Two indexes of the same pairs: by wanted parent, and by holder.
use Rattle.std.specs.Prelude.{◌≡◌, List, [], ◌∷◌, ◌++◌, map}
use Rattle.std.specs.List.{IsDistinct, list_any}
use Rattle.std.specs.List.Sorted.{IsStrictlySortedBy}
use Rattle.std.specs.Map.{lookup, keys_of}
use Rattle.std.specs.BTreeMap.{is_at}
use Rattle.std.specs.Ordering.{eq_by_cmp}
use Rattle.nw_digest.specs.declared.digest.Digest.{Digest}
use Rattle.nw_model.specs.declared.wanted.Wanted.{Wanted}
use Rattle.nw_waiting.specs.Lists.{AreFilled, list_of}
use Rattle.nw_digest.specs.Order.{digest_cmp}
use Rattle.nw_waiting.specs.Pairs.{Pair}
use Rattle.nw_model.specs.Missing.{wanted_cmp}

-- the pairs in the lists of holders
abbrev pub pairs_in : {L : Type 0} → (L → List Digest) → List (Wanted × L) → List Pair
pairs_in holders [] = []
pairs_in holders (e ∷ es) = map (λ h. (e.0, h)) (holders e.1) ++ pairs_in holders es

module _ {L M : Type 0} (holders : L → List Digest) (missing : M → List Wanted) where
  -- the holders found at a wanted parent
  abbrev pub holders_at : List (Wanted × L) → Wanted → List Digest
  holders_at hs w = list_of holders (lookup (is_at (wanted_cmp w)) hs)

  -- the missing parents found at a holder
  abbrev pub missing_at : List (Digest × M) → Digest → List Wanted
  missing_at ls h = list_of missing (lookup (is_at (digest_cmp h)) ls)

  -- the two indexes have the same pairs
  pub record HaveSamePairs (hs : List (Wanted × L)) (ls : List (Digest × M)) : Type 0 where
    -- a pair is in the first exactly when it is in the second
    pub same : (w : Wanted) (h : Digest) → list_any (eq_by_cmp digest_cmp h) (holders_at hs w) ≡ list_any (eq_by_cmp wanted_cmp w) (missing_at ls h)
    -- each list has a holder at most once
    pub holders_once : (w : Wanted) → IsDistinct (eq_by_cmp digest_cmp) (holders_at hs w)
    -- each list of parents ascends
    pub missing_ascends : (h : Digest) → IsStrictlySortedBy wanted_cmp (missing_at ls h)
    -- no list of holders is empty
    pub filled : AreFilled holders (λ w. lookup (is_at (wanted_cmp w)) hs)
    -- the wanted parents ascend
    pub ordered : IsStrictlySortedBy wanted_cmp (keys_of hs)
