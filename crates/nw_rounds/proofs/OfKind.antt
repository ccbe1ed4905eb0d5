-- What a lookup by kind finds in the one map that holds the digests of both kinds.
use Rattle.nw_rounds.proofs.Words.{◌≡◌, ◌∙◌, ℕ, Bool, true, false, cond, ◌&&◌, List, [], ◌∷◌, Option, Some, None, refl, sym, ap, filter, nat_le, eq_by_cmp, eq_by_cmp_equiv, lookup, is_at, get, insert, retain_keys, lookup-filter-keys, Digest, Slot, slot_cmp, slots_apart, slots_total, tie}
use Rattle.std.specs.Ordering.{is_eq}
use Rattle.std.specs.Cmp.{tied_then}
use Rattle.std.specs.FinMap.{find, from_entries, get-from_entries, get-insert, get-retain_keys, same_map}
use Rattle.std.proofs.lemmas.Bool.{and_parts}
use Rattle.nw_rounds.specs.declared.kind.DigestKind.{DigestKind}
use Rattle.nw_rounds.specs.declared.kind.DigestKind.TheVariants.{First, Certified}
use Rattle.nw_rounds.specs.Places.{Place, of_kind, is_kind, place_cmp, kind_cmp}

kind_tied : (s t : DigestKind) → is_eq (kind_cmp s t) ≡ is_kind s t
kind_tied First First = refl
kind_tied First Certified = refl
kind_tied Certified First = refl
kind_tied Certified Certified = refl

and_true : (b : Bool) → (b && true) ≡ b
and_true true = refl
and_true false = refl

and_false : (b : Bool) → (b && false) ≡ false
and_false true = refl
and_false false = refl

-- places compare as equal exactly when their slots do and their kinds are the same
pub place_tied : (q k : Slot) (s t : DigestKind) → is_at (place_cmp (q, s)) (k, t) ≡ (eq_by_cmp slot_cmp q k && is_kind s t)
place_tied q k s t = sym (tied_then (slot_cmp q k) (kind_cmp s t)) ∙ ap (λ b. is_eq (slot_cmp q k) && b) (kind_tied s t)

picked : (q k : Slot) (v : Digest) (rest : List (Slot × Digest)) (found : Option Digest) (one : Bool)
    → find slot_cmp q rest ≡ found → find slot_cmp q (cond one ((k, v) ∷ rest) rest) ≡ cond (eq_by_cmp slot_cmp q k && one) (Some v) found
picked q k v rest found true is = rw (and_true (eq_by_cmp slot_cmp q k)) (ap (cond (eq_by_cmp slot_cmp q k) (Some v)) is)
picked q k v rest found false is = rw (and_false (eq_by_cmp slot_cmp q k)) is

find_in : (t : DigestKind) (q : Slot) (es : List (Place × Digest)) → find slot_cmp q (of_kind t es) ≡ lookup (is_at (place_cmp (q, t))) es
find_in t q [] = refl
find_in t q (e ∷ es) =
    picked q e.0.0 e.1 (of_kind t es) _ (is_kind t e.0.1) (find_in t q es)
    ∙ ap (λ b. cond b (Some e.1) (lookup (is_at (place_cmp (q, t))) es)) (sym (place_tied q e.0.0 t e.0.1))

-- a lookup among the digests of a kind finds what a lookup in the entries finds
pub get_in : (t : DigestKind) (q : Slot) (es : List (Place × Digest)) → get (from_entries {R = slot_cmp} (of_kind t es)) q ≡ lookup (is_at (place_cmp (q, t))) es
get_in t q es = get-from_entries slots_total (of_kind t es) q ∙ find_in t q es

itself : (t : DigestKind) → is_kind t t ≡ true
itself First = refl
itself Certified = refl

module _ (m n : List (Place × Digest)) where
  module _ (k : Slot) (s : DigestKind) (v : Digest) (is : (p : Place) → lookup (is_at (place_cmp p)) n ≡ cond (is_at (place_cmp (k, s)) p) (Some v) (lookup (is_at (place_cmp p)) m)) where
    -- an insertion at a place inserts the digest among those of its kind
    pub put_there : from_entries {R = slot_cmp} (of_kind s n) ≡ insert (from_entries (of_kind s m)) k v
    put_there = same_map slots_total slots_apart _ _ (λ q.
        get_in s q n ∙ is (q, s)
        ∙ ap (λ b. cond b (Some v) (lookup (is_at (place_cmp (q, s))) m)) (place_tied k q s s ∙ ap (λ b. eq_by_cmp slot_cmp k q && b) (itself s) ∙ and_true _ ∙ (eq_by_cmp_equiv slots_total).symm k q)
        ∙ ap (cond (eq_by_cmp slot_cmp q k) (Some v)) (sym (get_in s q m))
        ∙ sym (get-insert slots_total (from_entries (of_kind s m)) k v q))

    -- an insertion at a place does not change the digests of the other kind
    pub put_elsewhere : (t : DigestKind) → is_kind s t ≡ false → from_entries {R = slot_cmp} (of_kind t n) ≡ from_entries (of_kind t m)
    put_elsewhere t other = same_map slots_total slots_apart _ _ (λ q.
        get_in t q n ∙ is (q, t)
        ∙ ap (λ b. cond b (Some v) (lookup (is_at (place_cmp (q, t))) m)) (place_tied k q s t ∙ ap (λ b. eq_by_cmp slot_cmp k q && b) other ∙ and_false _)
        ∙ sym (get_in t q m))

  -- if the entries of lower rounds are removed from the map, they are removed from the digests of each kind
  pub kept_in : (round : ℕ) → n ≡ filter (λ e. nat_le round e.0.0.0) m → (t : DigestKind) → from_entries {R = slot_cmp} (of_kind t n) ≡ retain_keys (from_entries (of_kind t m)) (λ slot. nat_le round slot.0)
  kept_in round is t = same_map slots_total slots_apart _ _ (λ q.
      get_in t q n ∙ ap (lookup (is_at (place_cmp (q, t)))) is
      ∙ lookup-filter-keys (is_at (place_cmp (q, t))) (λ p. nat_le round p.0.0) (nat_le round q.0)
      (λ p at. ap (λ (slot : Slot). nat_le round slot.0) (sym (slots_apart q p.0 (tie (slot_cmp q p.0) (and_parts _ _ (sym (place_tied q p.0 t p.1) ∙ at)).0)))) m
      ∙ ap (λ found. cond (nat_le round q.0) found None) (sym (get_in t q m))
      ∙ sym (get-retain_keys (from_entries (of_kind t m)) (λ slot. nat_le round slot.0) q (λ x e. ap (λ (slot : Slot). nat_le round slot.0) (sym (slots_apart q x e)))))
