-- The digests of both kinds in one map.
use Rattle.std.specs.Prelude.{◌≡◌, ◌==◌, ◌↔◌, ℕ, ◌-◌, ◌^◌, ◌<◌, ◌≤◌, All, List, [], ◌∷◌, ◌++◌, length, slice_get, Bool, true, false, Some, Contains, if◌then◌else◌}
use Rattle.std.specs.declared.cmp.Ordering.{Ordering}
use Rattle.std.specs.Ordering.{eq_by_cmp, ordering_then}
use Rattle.std.specs.List.{IsDistinct}
use Rattle.std.specs.Option.{option_map_or}
use Rattle.std.specs.Map.{keys_of}
use Rattle.std.specs.FinMap.{FinMap, from_entries, get}
use Rattle.nw_digest.specs.declared.digest.Digest.{Digest}
use Rattle.nw_rounds.specs.declared.kind.DigestKind.{DigestKind}
use Rattle.nw_rounds.specs.declared.kind.DigestKind.TheVariants.{First, Certified}
use Rattle.nw_rounds.specs.contracts.kind.DigestKindOrd.TheImpl.{ghosts}
use Rattle.nw_digest.specs.Order.{Slot, slot_cmp}
use Rattle.nw_rounds.specs.Slots.{Tables}

-- a place: a slot and a kind of digest
abbrev pub Place : Type 0
Place = Slot × DigestKind

-- whether the kinds are the same
abbrev pub is_kind : DigestKind → DigestKind → Bool
is_kind First First = true
is_kind First Certified = false
is_kind Certified First = false
is_kind Certified Certified = true

-- the order of the kinds: the first digest comes before the certified one
abbrev pub kind_cmp : DigestKind → DigestKind → Ordering
kind_cmp = ghosts.cmp

-- places by slot, then by kind
abbrev pub place_cmp : Place → Place → Ordering
place_cmp a b = ordering_then (slot_cmp a.0 b.0) (kind_cmp a.1 b.1)

-- the digests of the kind, by slot
abbrev pub of_kind : DigestKind → List (Place × Digest) → List (Slot × Digest)
of_kind kind [] = []
of_kind kind (e ∷ es) = if is_kind kind e.0.1 then (e.0.0, e.1) ∷ of_kind kind es else of_kind kind es

-- the digests of each kind as a map
abbrev pub tables_of : List (Place × Digest) → Tables
tables_of es = record { firsts = from_entries (of_kind First es); certified = from_entries (of_kind Certified es) }

-- the map of the kind
abbrev pub map_of : Tables → DigestKind → FinMap slot_cmp Digest
map_of t First = t.firsts
map_of t Certified = t.certified

-- the places of the rounds from..to, with their digests
pub record ArePlacesBetween (t : Tables) (from to : ℕ) (places : List (Place × Digest)) : Type 0 where
  -- exactly the places of these rounds that have a digest, with this digest
  pub exactly : (p : Place) (d : Digest) → Contains places (p, d) ↔ ((from ≤ p.0.0) × (p.0.0 < to) × (get (map_of t p.1) p.0 ≡ Some d))
  -- each place once
  pub once : IsDistinct (eq_by_cmp place_cmp) (keys_of places)

-- the number of the place is that of a round
abbrev pub IsOfRound : Place → Type 0
IsOfRound p = p.0.0 < 2 ^ 48

-- the places are of rounds
abbrev pub AreRounds : List (Place × Digest) → Type 0
AreRounds entries = All IsOfRound (keys_of entries)

-- the authors, with this one at the end, unless it is the last one already
abbrev pub with_author : List ℕ → ℕ → List ℕ
with_author authors author = if option_map_or (λ last. author == last) (slice_get authors (length authors - 1)) false then authors else authors ++ author ∷ []

-- the first entry belongs to a lower round
abbrev pub BeginsBelow : ℕ → List (Place × Digest) → Type 0
BeginsBelow round [] = ⊥
BeginsBelow round (e ∷ es) = e.0.0.0 < round
