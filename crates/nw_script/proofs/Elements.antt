-- Parsing the parts of a list, one after another.
use Rattle.std.proofs.Common.{◌≡◌, ◌∙◌, ℕ, ◌+◌, ◌<◌, List, [], ◌∷◌, ◌++◌, map, length, take, get_or, Option, Some, None, Bor, false, codes, refl, ap}
use Rattle.std.specs.Fn.{Shared, FnReturnsAt}
use Rattle.std.specs.List.{slice_split}
use Rattle.std.specs.Str.{bytes_eq}
use Rattle.std.proofs.lemmas.Fn.{says_at}
use Rattle.std.proofs.lemmas.List.{get_or-map, length-map, take_more}
use lib.Dec.{eqb}
use Rattle.nw_script.specs.List.{AreElements, HasNonElement, parts_of}

-- a text other than `-` is split at its commas
pub parts_of_split : (text : List ℕ) → bytes_eq text (codes "-") ≡ false → parts_of text ≡ slice_split (λ b. eqb b 44) text
parts_of_split text other = rw other refl

module _ {F T : Type 0} (g : Shared F (Bor (List ℕ) × Unit {0}) (Option T)) (f : F) where
  pub AreElements-push : (ps : List (List ℕ)) (xs : List T) (part : List ℕ) (x : T) → AreElements g f ps xs → FnReturnsAt g f part (Some x) → AreElements g f (ps ++ part ∷ []) (xs ++ x ∷ [])
  AreElements-push [] [] part x h is = (is, tt)
  AreElements-push [] (y ∷ ys) part x h is = absurd h
  AreElements-push (p ∷ ps) [] part x h is = absurd h
  AreElements-push (p ∷ ps) (y ∷ ys) part x h is = (h.0, AreElements-push ps ys part x h.1 is)

  -- parsing one more part gives one more element
  pub one_more : (parts : List (Bor (List ℕ))) (i : ℕ) (d : Bor (List ℕ)) (xs ys : List T) (x : T) (r : Option T)
      → i < length parts → AreElements g f (take i (map (λ p. p.now) parts)) xs → g.post f (get_or parts i d, tt) r → r ≡ Some x → ys ≡ xs ++ x ∷ []
      → AreElements g f (take (i + 1) (map (λ p. p.now) parts)) ys
  one_more parts i d xs ys x r in_range before called is pushed =
      let texts = map (λ (p : Bor (List ℕ)). p.now) parts in
      let there : i < length texts = simp length-map in_range in
      let next : take (i + 1) texts ≡ take i texts ++ (get_or parts i d).now ∷ [] =
      take_more texts i [] there ∙ ap (λ part. take i texts ++ part ∷ []) (get_or-map (λ p. p.now) parts i d [] in_range) in
      rw (next, pushed) (AreElements-push (take i texts) xs _ x before (says_at g called is))

  -- a part that does not parse is not an element
  pub not_an_element : (parts : List (Bor (List ℕ))) (i : ℕ) (d : Bor (List ℕ)) (r : Option T)
      → i < length parts → g.post f (get_or parts i d, tt) r → r ≡ None → HasNonElement g f (map (λ p. p.now) parts)
  not_an_element parts i d r in_range called is =
      let there : i < length (map (λ (p : Bor (List ℕ)). p.now) parts) = simp length-map in_range in
      (i, (get_or parts i d).now, there, get_or-map (λ p. p.now) parts i d _ in_range, says_at g called is)
