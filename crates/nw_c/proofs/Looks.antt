-- Copies of looks.
use Rattle.std.proofs.Common.{◌≡◌, ◌∙◌, ℕ, ◌+◌, ◌<◌, List, [], ◌∷◌, ◌++◌, ap, get_or, length, map, sym, take}
use Rattle.std.specs.Prelude.{slice_set}
use Rattle.std.proofs.lemmas.List.{map-append, take_more, take_more_set}
use Rattle.nw_model.specs.declared.look.Look.{Look}
use Rattle.nw_c.specs.Look.{author_look_in}
use Rattle.nw_c.specs.declared.sessions.look.CAuthorLook.{CAuthorLook}

-- one more look is copied
pub copied : (looks : List CAuthorLook) (found : List (ℕ × Look)) (i : ℕ) (one : CAuthorLook) (seen : ℕ × Look) → i < length looks → i < length found → author_look_in one ≡ seen → seen ≡ get_or found i seen → map author_look_in (take i looks) ≡ take i found
    → map author_look_in (take (i + 1) (slice_set looks i one)) ≡ take (i + 1) found
copied looks found i one seen place below is at same =
    ap (map author_look_in) (take_more_set looks i one place) ∙ map-append author_look_in (take i looks) (one ∷ [])
    ∙ ap (λ xs. xs ++ author_look_in one ∷ []) same ∙ ap (λ x. take i found ++ x ∷ []) (is ∙ at) ∙ sym (take_more found i seen below)
