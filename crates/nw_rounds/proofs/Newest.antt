-- The newest round is that of the last place.
use Rattle.nw_rounds.proofs.Words.{◌≡◌, ◌∙◌, ◌⊎◌, inl, inr, ℕ, ◌<◌, Bool, cond, [], ◌∷◌, filter, true, false, List, Option, None, Some, refl, sym, ap, arith, Contains, nat_cmp, ordering_then, nat_cmp_is, keys_of, get, lookup, is_at, Digest, Slot, tie}
use Rattle.std.specs.Prelude.{◌≤◌, ◌^◌, All, SomeIff, length}
use Rattle.std.specs.Ordering.{is_lt}
use Rattle.std.proofs.lemmas.List.Elements.{All-contains, All-cons, All-head, All-nil, All-tail}
use Rattle.std.proofs.lemmas.Map.Views.{Contains-keys_from_lookup}
use Rattle.std.specs.declared.cmp.Ordering.TheVariants.{Less}
use Rattle.nw_rounds.specs.declared.kind.DigestKind.{DigestKind}
use Rattle.nw_rounds.specs.declared.kind.DigestKind.TheVariants.{First, Certified}
use Rattle.nw_digest.proofs.Found.{not_there, which, is_there}
use Rattle.nw_rounds.proofs.OfKind.{get_in}
use Rattle.nw_rounds.specs.Slots.{HasDigest, IsNewest}
use Rattle.nw_rounds.specs.Places.{AreRounds, IsOfRound, Place, kind_cmp, map_of, place_cmp, tables_of}
use Rattle.nw_rounds.proofs.AtRound.{at_kind, trichotomy}
use Rattle.nw_rounds.proofs.SlotLemmas.{places_apart}

-- a place that does not come after another is not of a higher round
not_later : (p q : Place) → is_lt (place_cmp p q) ≡ false → q.0.0 ≤ p.0.0
not_later p q h = by (trichotomy p.0.0 q.0.0)
  where
    by : (p.0.0 < q.0.0) ⊎ ((p.0.0 ≡ q.0.0) ⊎ (q.0.0 < p.0.0)) → q.0.0 ≤ p.0.0
    by (inl before) =
        let no : true ≡ false = ap (λ r. is_lt (ordering_then (ordering_then r (nat_cmp p.0.1 q.0.1)) (kind_cmp p.1 q.1))) (nat_cmp_is p.0.0 q.0.0 Less before) ∙ h in cc
    by (inr (inl here)) = omega arith
    by (inr (inr after)) = omega arith

-- a place with a digest is a key
key_of : (es : List (Place × Digest)) (p : Place) (d : Digest) → lookup (is_at (place_cmp p)) es ≡ Some d → Contains (keys_of es) p
key_of es p d found = Contains-keys_from_lookup (λ x y e. places_apart x y (tie (place_cmp x y) e)) p es (is_there (lookup (is_at (place_cmp p)) es) d found)

-- no place comes after p
module _ (es : List (Place × Digest)) (p : Place) (all : All (λ q. is_lt (place_cmp p q) ≡ false) (keys_of es)) where
  none_later : (kind : DigestKind) (slot : Slot) (d : Digest) → get (map_of (tables_of es) kind) slot ≡ Some d → slot.0 ≤ p.0.0
  none_later kind slot d found =
      not_later p (slot, kind) (All-contains (λ (q : Place). is_lt (place_cmp p q) ≡ false) (keys_of es) (slot, kind) all (key_of es (slot, kind) d (sym (at_kind es slot kind) ∙ found)))

  -- so no digest is of a later round
  pub last_round : (slot : Slot) → HasDigest (tables_of es) slot → slot.0 ≤ p.0.0
  last_round slot (inl first) = let (d, found) = which (get (tables_of es).firsts slot) first in none_later First slot d found
  last_round slot (inr certified) = let (d, found) = which (get (tables_of es).certified slot) certified in none_later Certified slot d found

  -- and the round of p has one
  pub has_digest : (d : Digest) → lookup (is_at (place_cmp p)) es ≡ Some d → HasDigest (tables_of es) p.0
  has_digest d found = by p.1 (at_kind es p.0 p.1 ∙ found)
    where
      by : (kind : DigestKind) → get (map_of (tables_of es) kind) p.0 ≡ Some d → HasDigest (tables_of es) p.0
      by First is = inl (is_there (get (tables_of es).firsts p.0) d is)
      by Certified is = inr (is_there (get (tables_of es).certified p.0) d is)

-- the round of a place that has a digest
pub round_of : (es : List (Place × Digest)) (p : Place) (d : Digest) → AreRounds es → lookup (is_at (place_cmp p)) es ≡ Some d → p.0.0 < 2 ^ 48
round_of es p d are found = All-contains IsOfRound (keys_of es) p are (key_of es p d found)

-- places of rounds that are kept are still such
pub stay_rounds : (kept : Place → Bool) (es : List (Place × Digest)) → AreRounds es → AreRounds (filter (λ e. kept e.0) es)
stay_rounds kept [] are = All-nil IsOfRound
stay_rounds kept (e ∷ es) are = by (kept e.0) (stay_rounds kept es (All-tail IsOfRound e.0 (keys_of es) are))
  where
    by : (b : Bool) → AreRounds (filter (λ x. kept x.0) es) → AreRounds (cond b (e ∷ filter (λ x. kept x.0) es) (filter (λ x. kept x.0) es))
    by true rest = All-cons IsOfRound e.0 (keys_of (filter (λ x. kept x.0) es)) (All-head IsOfRound e.0 (keys_of es) are) rest
    by false rest = rest

-- this round is not newer than the newest of the digests, which is the round of p, or the other way round
module _ (es : List (Place × Digest)) (p : Place) (d : Digest) (all : All (λ q. is_lt (place_cmp p q) ≡ false) (keys_of es)) (found : lookup (is_at (place_cmp p)) es ≡ Some d) (least : ℕ) where
  pub newer : least < p.0.0 → IsNewest (tables_of es) least p.0.0
  newer above = record { least_first = omega arith; last = last_round es p all; some = inr (p.0.1, has_digest es p all d found) }

  pub not_newer : p.0.0 ≤ least → IsNewest (tables_of es) least least
  not_newer low = record { least_first = omega arith; last = λ slot has. let under = last_round es p all slot has in omega arith; some = inl refl }

-- without digests, no round is newer
pub none_newer : (es : List (Place × Digest)) (least : ℕ) → (0 < length es → ⊥) → IsNewest (tables_of es) least least
none_newer (e ∷ es) least empty = absurd (empty (omega arith))
none_newer [] least empty = record { least_first = omega arith; last = λ slot has. absurd (nothing slot has); some = inl refl }
  where
    nothing : (slot : Slot) → HasDigest (tables_of []) slot → ⊥
    nothing slot (inl first) = not_there (get (tables_of []).firsts slot) (get_in First slot []) first
    nothing slot (inr certified) = not_there (get (tables_of []).certified slot) (get_in Certified slot []) certified

-- what holds exactly if there is a value gives it
pub made_of : {X P : Type 0} (found : Option X) (x : X) → SomeIff found P x → P → found ≡ Some x
made_of None x is p = absurd (is p)
made_of (Some y) x is p = ap Some is.1
