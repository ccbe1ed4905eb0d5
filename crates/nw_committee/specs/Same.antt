-- Equality of committees, member by member.
use Rattle.std.specs.Prelude.{◌≡◌, ◌==◌, ◌&&◌, ℕ, Bool, true, false, List}
use Rattle.std.specs.Cmp.{IsEquivalence, IsPartialEquivalence, decided, partial_equiv_from_equiv}
use Rattle.std.specs.Cmp.Lexicographic.{pointwise, pointwise_decides, bytes_decides}
use Rattle.std.proofs.Common.{nat_eq, refl, ap}
use Rattle.std.proofs.lemmas.Bool.Decides.{Decides-eqb}
use Rattle.nw_committee.specs.declared.member.Member.{Member}

-- whether the keys and the weights of two members are equal
abbrev pub same_member : Member → Member → Bool
same_member a b = pointwise (λ x y. x == y) a.key.0 b.key.0 && (a.weight == b.weight)

-- whether two committees have equal members in the same order
abbrev pub same_members : List Member → List Member → Bool
same_members = pointwise same_member

both : (s t : Bool) → (s && t) ≡ true → (s ≡ true) × (t ≡ true)
both true t h = (refl, h)
both false t h = absurd cc

from_both : (s t : Bool) → s ≡ true → t ≡ true → (s && t) ≡ true
from_both true t h g = g
from_both false t h g = h

member_of : List ℕ → ℕ → Member
member_of key weight = record { key = record { 0 = key }; weight = weight }

-- `same_member` is true exactly for equal members
same_member_decides : (a b : Member) → (same_member a b ≡ true → a ≡ b) × (a ≡ b → same_member a b ≡ true)
unfolding member_of
same_member_decides a b = (
  λ h.
      let parts = both (pointwise nat_eq a.key.0 b.key.0) (nat_eq a.weight b.weight) h in
      let keys = (bytes_decides a.key.0 b.key.0).0 parts.0 in
      let weights = (Decides-eqb a.weight b.weight).0 parts.1 in
      λ i. member_of (keys i) (weights i),
  λ e. from_both (pointwise nat_eq a.key.0 b.key.0) (nat_eq a.weight b.weight)
      ((bytes_decides a.key.0 b.key.0).1 (ap (λ (m : Member). m.key.0) e))
      ((Decides-eqb a.weight b.weight).1 (ap (λ (m : Member). m.weight) e)),
)

-- `same_members` is true exactly for equal lists of members
pub same_members_decides : (a b : List Member) → (same_members a b ≡ true → a ≡ b) × (a ≡ b → same_members a b ≡ true)
same_members_decides = pointwise_decides same_member_decides

-- so `same_members` is an equivalence relation
pub same_members-equiv : IsEquivalence same_members
same_members-equiv = decided same_members same_members_decides

-- and a partial equivalence relation
pub same_members-per : IsPartialEquivalence same_members
same_members-per = partial_equiv_from_equiv same_members-equiv
