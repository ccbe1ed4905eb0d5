-- Prepared keys: the comb of a key's point.
use Rattle.nw_ed25519.proofs.Words.{◌≡◌, ◌/◌, ◌^◌, Option, Some, None, refl, sym, ap, ◌∙◌, subst, negated, Point, PointIfAny, coordinates, negative_of, negative_valid, negated_represents}
use Rattle.nw_ed25519.specs.Comb.{rows, AreAllProper}
use Rattle.nw_ed25519.specs.Prepared.{key_rows, entries_of, bits_of}
use Rattle.nw_ed25519.specs.declared.comb.Comb.{Comb}
use Rattle.nw_ed25519.proofs.CombSums.{all_proper}

-- the key is no point, and has no comb
pub no_key : (o r : Option Point) (comb : Option Comb) → r ≡ o → r ≡ None → comb ≡ None → (bits_of comb ≡ 4) × (entries_of comb ≡ key_rows o)
no_key o r comb same none is =
    let k : o ≡ None = sym same ∙ none in
    rw (is, k) (refl, refl)

-- the key is a point, and has the comb of its negative
pub key_with_comb : (o r : Option Point) (p q : Point) (comb : Option Comb) (k : Comb) → r ≡ o → r ≡ Some p → q ≡ negated p → PointIfAny o → comb ≡ Some k → k.bits ≡ 4
    → (AreAllProper q → k.entries.items ≡ rows (2 ^ 4 / 16) 16 q) → (bits_of comb ≡ 4) × (entries_of comb ≡ key_rows o)
key_with_comb o r p q comb k same some eq any is bits entries =
    let found : o ≡ Some p = sym same ∙ some in
    let on = subst PointIfAny found any in
    let proper = all_proper (negated p) (negative_of (coordinates p)) (negative_valid (coordinates p) on.0) (negated_represents p (coordinates p) on.0 on.1) in
    rw (is, found) (bits, ap Some (entries (subst AreAllProper (sym eq) proper) ∙ ap (rows 1 16) eq))
