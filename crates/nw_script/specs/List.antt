-- Lists in a word, separated by commas.
use Rattle.std.specs.Prelude.{ℕ, ◌==◌, List, [], ◌∷◌, if◌then◌else◌, codes, Option, Some, None, Any}
use Rattle.std.specs.Fn.{Shared, FnReturnsAt}
use Rattle.std.specs.List.{slice_split}
use Rattle.std.specs.Str.{bytes_eq}
use denote.Ref.{Bor}

-- the parts between the commas of a text; `-` has none
abbrev pub parts_of : List ℕ → List (List ℕ)
parts_of text = if bytes_eq text (codes "-") then [] else slice_split (λ b. b == 44) text

module _ {F T : Type 0} (g : Shared F (Bor (List ℕ) × Unit {0}) (Option T)) (element : F) where
  -- the list contains exactly the elements of the parts, in order
  abbrev pub AreElements : List (List ℕ) → List T → Type 0
  AreElements [] [] = Unit {0}
  AreElements [] (x ∷ xs) = ⊥
  AreElements (part ∷ parts) [] = ⊥
  AreElements (part ∷ parts) (x ∷ xs) = FnReturnsAt g element part (Some x) × AreElements parts xs

  -- some part is not an element
  abbrev pub HasNonElement : List (List ℕ) → Type 0
  HasNonElement parts = Any (λ part. FnReturnsAt g element part None) parts
