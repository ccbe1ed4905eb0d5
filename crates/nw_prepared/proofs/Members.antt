-- The prepared keys of members: the key at a place is that of the member at the place.
use Rattle.std.proofs.Common.{◌≡◌, ◌∙◌, ℕ, zero, suc, ◌+◌, ◌<◌, Bool, true, false, Option, Some, None, List, [], ◌∷◌, ◌++◌, length, take, get_or, refl, sym, ap, arith}
use Rattle.std.specs.Prelude.{IsTrue, MatchOption, ◌↔◌, slice_get}
use Rattle.std.specs.Option.{option_map}
use Rattle.std.proofs.lemmas.List.{take_more, map-append, length-map}
use Rattle.std.proofs.lemmas.Option.{slice_get-map, get_or_from_slice_get, slice_get_within}
use Rattle.nw_codec.specs.Same.{same_bytes}
use Rattle.nw_codec.specs.Typed.{IsSignature}
use Rattle.nw_codec.specs.declared.certificate.Signature.{Signature}
use Rattle.nw_committee.specs.Committee.{keys}
use Rattle.nw_committee.specs.declared.member.Key.{Key}
use Rattle.nw_committee.specs.declared.member.Member.{Member}
use Rattle.nw_model.specs.Checks.{IsSignedBy}
use Rattle.nw_curve.specs.Coding.{encoded}
use Rattle.nw_curve.specs.Inverse.{HasInverse}
use Rattle.nw_curve.specs.declared.curve.point.Point.{Point}
use Rattle.nw_ed25519.specs.Accepts.{accepts}
use Rattle.nw_ed25519.specs.declared.keys.PreparedKey.{PreparedKey}
use Rattle.nw_prepared.specs.Keys.{prepared_keys}

from_key : (found : Option Member) (key : Key) → option_map (λ (m : Member). m.key) found ≡ Some key → (m : Member) × (found ≡ Some m) × (m.key ≡ key)
from_key None key h = absurd cc
from_key (Some m) key h = (m, refl, cc)

from_no_key : (found : Option Member) → option_map (λ (m : Member). m.key) found ≡ None → found ≡ None
from_no_key None h = refl
from_no_key (Some m) h = absurd cc

module _ (prepared : List PreparedKey) (members : List Member) (same : prepared_keys prepared ≡ keys members) (number : ℕ) where
  key_at : option_map (λ (m : Member). m.key) (slice_get members number) ≡ option_map (λ (p : PreparedKey). p.key) (slice_get prepared number)
  key_at =
      sym (slice_get-map (λ (m : Member). m.key) members number) ∙ (ap (λ (ks : List Key). slice_get ks number) (sym same) ∙ slice_get-map (λ (p : PreparedKey). p.key) prepared number)

  -- the member with this number has the prepared key at the place
  pub member_at : (p : PreparedKey) → slice_get prepared number ≡ Some p → (m : Member) × (slice_get members number ≡ Some m) × (m.key ≡ p.key)
  member_at p h = from_key (slice_get members number) p.key (key_at ∙ ap (λ (found : Option PreparedKey). option_map (λ (q : PreparedKey). q.key) found) h)

  -- no member has this number
  pub no_member_at : slice_get prepared number ≡ None → slice_get members number ≡ None
  no_member_at h = from_no_key (slice_get members number) (key_at ∙ ap (λ (found : Option PreparedKey). option_map (λ (q : PreparedKey). q.key) found) h)

module _ (members : List Member) (number : ℕ) (text : List ℕ) (signature : Signature) where
  -- a number that no member has signs nothing
  pub not_signed : slice_get members number ≡ None → IsSignedBy accepts members number text signature → ⊥
  not_signed h (size, m, at, good) = absurd cc

  same_member : (a b : Member) → slice_get members number ≡ Some a → slice_get members number ≡ Some b → a ≡ b
  same_member a b x y = cc

  -- the member's signature is the one that the scheme accepts under its key
  pub signed_exactly : (m : Member) (good : Bool) → IsSignature signature → slice_get members number ≡ Some m → accepts m.key text signature ≡ good
      → IsTrue good ↔ IsSignedBy accepts members number text signature
  signed_exactly m good size at is =
      (λ so. (size, m, at, is ∙ so), λ (_, other, found, accepted). sym is ∙ (ap (λ (k : Member). accepts k.key text signature) (same_member m other at found) ∙ accepted))

  -- the expected point decides the member's signature
  pub expected_decides : (m : Member) (key : Key) (found : Option Point) → IsSignature signature → slice_get members number ≡ Some m → m.key ≡ key
      → MatchOption found (accepts key text signature ≡ false) (λ q. HasInverse q.z × (accepts key text signature ≡ same_bytes (take 32 signature.0) (encoded q)))
      → MatchOption found (IsSignedBy accepts members number text signature → ⊥) (λ q. HasInverse q.z × (IsTrue (same_bytes (take 32 signature.0) (encoded q)) ↔ IsSignedBy accepts members number text signature))
  expected_decides m key None size at is h =
      let no : accepts m.key text signature ≡ false = ap (λ (k : Key). accepts k text signature) is ∙ h in
      λ signed. let so : false ≡ true = (signed_exactly m false size at no).1 signed in absurd cc
  expected_decides m key (Some q) size at is h =
      (h.0, signed_exactly m (same_bytes (take 32 signature.0) (encoded q)) size at (ap (λ (k : Key). accepts k text signature) is ∙ h.1))

-- each member has a key
pub absent_key : (members : List Member) (n : ℕ) → n < length members → None ≡ option_map (λ (m : Member). m.key) (slice_get members n) → ⊥
absent_key [] n h e = omega arith
absent_key (m ∷ members) zero h e = cc
absent_key (m ∷ members) (suc n) h e = absent_key members n (omega arith) e

-- one more key is prepared
pub next_key : (before after : List PreparedKey) (members : List Member) (n : ℕ) (p : PreparedKey) (key : Key) → prepared_keys before ≡ take n (keys members)
    → Some key ≡ option_map (λ (m : Member). m.key) (slice_get members n) → p.key ≡ key → after ≡ before ++ p ∷ [] → prepared_keys after ≡ take (n + 1) (keys members)
next_key before after members n p key so found is e =
    let member = from_key (slice_get members n) key (sym found) in
    let within : n < length members = slice_get_within members n member.0 member.1 in
    let at : get_or (keys members) n key ≡ key = get_or_from_slice_get (keys members) n key key (slice_get-map (λ (m : Member). m.key) members n ∙ sym found) in
    let long : n < length (keys members) = omega (arith, length-map members (λ (m : Member). m.key)) in
    ap (λ (all : List PreparedKey). prepared_keys all) e
    ∙ (map-append (λ (q : PreparedKey). q.key) before (p ∷ [])
    ∙ (ap (λ (front : List Key). front ++ p.key ∷ []) so
    ∙ (ap (λ (k : Key). take n (keys members) ++ k ∷ []) (is ∙ sym at)
    ∙ sym (take_more (keys members) n key long))))
