-- The answer of `is_sorted_by` says whether the numbers ascend strictly.
use Rattle.nw_codec.proofs.Words.{◌≡◌, ℕ, ◌+◌, ◌<◌, Bool, true, false, List, [], ◌∷◌, length, get_or, refl, sym, arith}
use Rattle.std.proofs.Common.{◌↔◌, map}
use Rattle.std.specs.Prelude.{nat_lt, IsTrue}
use Rattle.std.specs.List.{IsAllAdjacentAnswer}
use Rattle.std.specs.List.Sorted.{IsStrictlyIncreasing}
use Rattle.std.proofs.lemmas.Bool.{ltb-true, ltb-false}
use Rattle.std.proofs.lemmas.List.{get_or-map, length-map}

at : {X : Type 0} (f : X → ℕ) (xs : List X) (k : ℕ) (d : X) → k < length xs → get_or (map f xs) k 0 ≡ f (get_or xs k d)
at f xs k d h = get_or-map f xs k d 0 h

pub rising_answer : {X : Type 0} (f : X → ℕ) (xs : List X) (r : Bool) → IsAllAdjacentAnswer (λ x y b. b ≡ nat_lt (f x) (f y)) xs r → IsTrue r ↔ IsStrictlyIncreasing (map f xs)
rising_answer f [] true each = (λ h k lt. absurd (omega arith), λ rises. refl)
rising_answer f (x ∷ xs) true each = (
  λ h k lt.
      let len = length-map (x ∷ xs) f in
      let low = at f (x ∷ xs) k x (omega (arith, len)) in
      let high = at f (x ∷ xs) (k + 1) x (omega (arith, len)) in
      let next = ltb-true _ _ (sym (each k x (omega (arith, len)))) in
      rw (low, high) next,
  λ rises. refl,
)
rising_answer f [] false each = absurd (omega (arith, each.1))
rising_answer f (x ∷ xs) false each = (
  λ h. absurd cc,
  λ rises.
      let k = each.0 in
      let len = length-map (x ∷ xs) f in
      let low = at f (x ∷ xs) k x (omega (arith, each.1)) in
      let high = at f (x ∷ xs) (k + 1) x (omega (arith, each.1)) in
      let le = ltb-false _ _ (sym (each.2 x)) in
      absurd (omega (arith, rises k (omega (arith, len, each.1)), low, high, le)),
)
