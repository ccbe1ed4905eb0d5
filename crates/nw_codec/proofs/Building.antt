-- Items that are built in order from their encoding.
use Rattle.nw_codec.proofs.Words.{◌≡◌, ℕ, List, [], ◌∷◌, ◌++◌, sym, ap, ◌∙◌, append_assoc, flat_map, append-nil, All-push}
use Rattle.std.proofs.Common.{All}

-- these items are built, and the rest of the text is left
pub record AreBuilt {X : Type 0} (piece : X → List ℕ) (P : X → Type 0) (text : List ℕ) (made : List X) (rest : List ℕ) : Type 0 where
  pub holds : All P made
  pub bytes : text ≡ flat_map piece made ++ rest

pub flat_map-push : {X : Type 0} (piece : X → List ℕ) (xs : List X) (x : X) → flat_map piece (xs ++ x ∷ []) ≡ flat_map piece xs ++ piece x
flat_map-push piece [] x = append-nil (piece x)
flat_map-push piece (y ∷ ys) x = ap (λ (t : List ℕ). piece y ++ t) (flat_map-push piece ys x) ∙ sym (append_assoc (piece y) (flat_map piece ys) (piece x))

pub one_more_built : {X : Type 0} (piece : X → List ℕ) (P : X → Type 0) (text : List ℕ) (made all : List X) (item : X) (here after : List ℕ)
    → AreBuilt piece P text made here → P item → here ≡ piece item ++ after → all ≡ made ++ item ∷ [] → AreBuilt piece P text all after
one_more_built piece P text made all item here after built holds cut is =
    let bytes : text ≡ flat_map piece (made ++ item ∷ []) ++ after = built.bytes ∙ ap (λ (t : List ℕ). flat_map piece made ++ t) cut ∙ sym (append_assoc (flat_map piece made) (piece item) after) ∙ ap (λ (t : List ℕ). t ++ after) (sym (flat_map-push piece made item)) in
    rw is (record { holds = All-push P made item built.holds holds; bytes = bytes })

-- all items are built if no text is left
pub all_built : {X : Type 0} (piece : X → List ℕ) (P : X → Type 0) (text : List ℕ) (made : List X) (rest : List ℕ) → AreBuilt piece P text made rest → rest ≡ [] → text ≡ flat_map piece made
all_built piece P text made rest built none = built.bytes ∙ ap (λ (t : List ℕ). flat_map piece made ++ t) none ∙ append-nil (flat_map piece made)
