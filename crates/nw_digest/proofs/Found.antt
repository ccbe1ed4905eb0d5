-- What a search finds.
use Rattle.std.proofs.Common.{◌≡◌, false, Option, Some, None, IsSome, IsNone, is_some, refl, sym, subst}

pub which : {X : Type 0} (found : Option X) → IsSome found → (x : X) × (found ≡ Some x)
which None h = absurd cc
which (Some x) h = (x, refl)

pub is_there : {X : Type 0} (found : Option X) (x : X) → found ≡ Some x → IsSome found
is_there found x e = subst IsSome (sym e) refl

pub absent : {X : Type 0} (found : Option X) → IsNone found → found ≡ None
absent None h = refl
absent (Some x) h = absurd cc

pub is_absent : {X : Type 0} (found : Option X) → is_some found ≡ false → found ≡ None
is_absent None e = refl
is_absent (Some x) e = cc

pub not_there : {X : Type 0} (found : Option X) → found ≡ None → IsSome found → ⊥
not_there None none some = absurd cc
not_there (Some x) none some = absurd cc
